-- What contracts of single calls say, and no list of commands needs.
pub mod Due
pub mod References
pub mod Tables
pub mod There
