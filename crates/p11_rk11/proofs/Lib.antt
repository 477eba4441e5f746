-- Lemmas on the controller: words of sectors and memory, RKCS bit by bit, due turns, and what every event keeps.
pub mod Closing
pub mod ControlWord
pub mod Init
pub mod Kept
pub mod Parts
pub mod Places
pub mod Reachable
pub mod Runs
pub mod Turns
pub mod Words
