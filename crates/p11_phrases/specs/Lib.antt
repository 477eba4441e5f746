-- Words for people: what a typed line means, as lines of the language.
pub mod Words
pub mod Verbs
pub mod Registers
pub mod Spans
pub mod Phrases
pub mod Calls
