-- What contracts of single calls say, and no list of commands needs.
pub mod LineText
pub mod Reading
pub mod Writing
