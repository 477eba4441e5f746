-- Bits of words, and due turns.
pub mod Bits
pub mod DueTurns
