-- Lemmas on ranges of words, runs, lists of commands, confinement, and a session's bytes and lines.
pub mod RangeLemmas
pub mod ExamineLemmas
pub mod RunLemmas
pub mod RunOutcomes
pub mod PlayLemmas
pub mod ConfinedRuns
pub mod OutcomeLemmas
pub mod FlushLemmas
pub mod LoadLemmas
pub mod BufferLemmas
pub mod ScriptLemmas
pub mod SessionLemmas
pub mod Walks
