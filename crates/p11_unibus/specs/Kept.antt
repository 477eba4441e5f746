-- What is kept beside the state, and seen by contracts alone.
pub mod Devices
pub mod Due
pub mod Prepared
pub mod Quiet
pub mod Ticks
pub mod View
pub mod Written
