pub mod Registers
pub mod DeviceLaws
pub mod Listing
pub mod Map
pub mod FirstTurns
pub mod DueLemmas
mod QuietLemmas
mod Ticks
