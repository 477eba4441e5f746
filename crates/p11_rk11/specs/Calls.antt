-- What contracts of single calls say, and no list of commands needs.
pub mod Addresses
pub mod Due
pub mod Heads
pub mod Parts
pub mod Places
