pub mod CrashLemmas
pub mod FillLemmas
pub mod ReadLemmas
pub mod ReplaceLemmas
pub mod Walks
