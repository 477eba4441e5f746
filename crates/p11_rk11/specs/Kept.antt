-- What is kept beside the state, and seen by contracts alone.
pub mod View
