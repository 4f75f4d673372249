-- Lemmas over lists and records, which the functions' proofs cite.
pub mod Stepping
pub mod Ending
