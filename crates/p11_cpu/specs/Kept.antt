-- What is kept beside the state, and seen by contracts alone.
pub mod Agreement
pub mod Bank
pub mod Decoded
pub mod Found
pub mod OnBus
pub mod Prepared
pub mod Quiet
pub mod Reach
pub mod Signs
pub mod View
