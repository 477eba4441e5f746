-- What contracts of single calls say, and no list of commands needs.
pub mod Fits
pub mod Quotients
pub mod Rules
pub mod ShiftsAtOnce
