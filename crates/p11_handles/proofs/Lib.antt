-- Lemmas of the C library: machines and consoles behind C's pointers, rows of files, and what calls leave.
pub mod AsBox
pub mod CallLemmas
pub mod HeldLemmas
pub mod RawBoxes
pub mod ReadLemmas
pub mod RowLemmas
pub mod RunLemmas
pub mod ConsoleAsBox
pub mod ConsoleLemmas
pub mod StoreLemmas
pub mod TypedLemmas
