-- What contracts of calls say beside the definitions.
pub mod QuietTurns
pub mod Endings
pub mod Pushes
pub mod WaitingTurns
