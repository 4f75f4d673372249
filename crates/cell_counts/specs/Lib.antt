-- inner serves the functions and the proofs of the crates above.
pub mod inner
