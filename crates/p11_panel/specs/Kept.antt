-- What is kept beside the state, and seen by contracts alone.
pub mod Buffer
pub mod Pieces
pub mod Standing
pub mod Told
