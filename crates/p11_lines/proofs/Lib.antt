-- Lemmas on texts: numbers and bytes as they are written, words as they are read, and texts written piece by piece.
pub mod Calls
pub mod Escapes
pub mod Lists
pub mod Numbers
pub mod Numerals
pub mod Parts
pub mod Pieces
pub mod ReadBack
