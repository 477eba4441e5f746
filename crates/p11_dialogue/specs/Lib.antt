-- What a dialogue says, records and has under way, in the order of its layers.
pub mod Said
pub mod Lines
pub mod Record
pub mod Runs
pub mod Stops
pub mod LineKinds
pub mod Manner
pub mod Typing
pub mod Behind
