-- Absolute paper tapes: what they mean, their faults, and the grammar that they follow.
pub mod Fault
pub mod Reading
pub mod Calls
pub mod Laws
