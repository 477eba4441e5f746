-- Memory as the list of its words.
pub mod Memory
pub mod Calls
pub mod Laws
