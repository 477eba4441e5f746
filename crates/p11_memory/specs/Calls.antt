-- What contracts of single calls say.
pub mod Runs
