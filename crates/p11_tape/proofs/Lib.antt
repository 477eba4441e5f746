-- Lemmas on tapes: zeros, blocks and readings.
mod ZeroLemmas
mod BlockLemmas
mod ReadLemmas
mod LawLemmas
mod WriterLemmas
