-- Lemmas on packs: the sectors of an image, and the sectors that are kept over it.
pub mod Keeping
pub mod Over
pub mod Sectors
