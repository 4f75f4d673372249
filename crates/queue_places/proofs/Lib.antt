-- Lemmas, which the functions' proofs cite.
pub mod PlacesByRank
