-- Lemmas on where a step does nothing, and on what a typed line means.
pub mod Resting
pub mod Meanings
pub mod WordsCompleted
pub mod Once
