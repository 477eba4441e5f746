-- What a console does at each event, in the order of its layers.
pub mod Saved
pub mod State
pub mod Tries
pub mod Steps
pub mod Files
pub mod Once
