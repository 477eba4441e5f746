-- Lemmas on the status word: it gives its fields back, and joined modes have both modes' bits.
pub mod Modes
pub mod Words
