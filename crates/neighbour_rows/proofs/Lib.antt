-- Lemmas over lists and records, which the functions' proofs cite.
pub mod Places
pub mod RowCells
pub mod Rewriting
