-- The processor status word, the vectors, and the stack limit of kernel mode.
pub mod Fields
pub mod Status
pub mod Sources
pub mod Vectors
pub mod Zones
pub mod Laws
pub mod Calls
