-- Inner vocabulary: for the proofs of functions.
pub mod Steps
