-- Lemmas on bytes that are taken out.
pub mod Removing
