-- Lemmas over lists and records, which the functions' proofs cite.
pub mod Recounts
pub mod Seeding
pub mod ClashCounts
pub mod Propagating
