-- Which bytes pass to a terminal, and how the others are shown.
pub mod Bits
pub mod Sequences
pub mod Screen
pub mod Outlets
