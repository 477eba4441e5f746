-- The RK11 disk controller with its RK05 drives: its registers, its functions, and what it does in a turn.
pub mod Acts
pub mod Address
pub mod Drives
pub mod Errors
pub mod Functions
pub mod Place
pub mod Registers
pub mod Sector
pub mod Starts
pub mod State
pub mod View
pub mod Kept
pub mod Laws
pub mod Calls
