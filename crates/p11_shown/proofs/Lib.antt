-- Lemmas on what a writer has taken.
pub mod Writing
