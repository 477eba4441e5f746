-- A lemma on the store that keeps its files in memory.
pub mod FileLemmas
