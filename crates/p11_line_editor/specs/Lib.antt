-- The line that is typed: keys, what they do to it, the history, what completes a word, and what the screen gets.
pub mod Keys
pub mod Decoding
pub mod Line
pub mod History
pub mod Telling
pub mod Editing
pub mod Completion
pub mod Screen
