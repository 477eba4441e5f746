-- What follows from the definitions: nothing that is proved of a list of commands rests on it.
pub mod Due
pub mod Words
