-- What the operator's commands, lists of them and sessions do and answer, and the laws that follow.
pub mod Runs
pub mod Ranges
pub mod Keys
pub mod Refusals
pub mod Shown
pub mod Disks
pub mod Tapes
pub mod Commands
pub mod Play
pub mod Confinement
pub mod Script
pub mod Readers
pub mod Session
pub mod Kept
pub mod Calls
pub mod Laws
