-- What contracts of single calls say, and no list of commands needs.
pub mod Reads
pub mod Runs
pub mod Sizes
