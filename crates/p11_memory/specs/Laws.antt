-- What every memory is.
pub mod Memory
