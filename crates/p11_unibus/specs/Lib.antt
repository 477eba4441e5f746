-- The Unibus with what stands on it: memory, the devices, and the switch register.
pub mod Bytes
pub mod State
pub mod HostMemory
pub mod Registers
pub mod Due
pub mod Bus
pub mod Written
pub mod Acts
pub mod Requests
pub mod Events
pub mod Prepared
pub mod Devices
pub mod Calls
pub mod Kept
pub mod Laws
