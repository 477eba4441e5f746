-- What contracts know of a store of files: its files, its calls and its refusals.
pub mod Store
pub mod Calls
