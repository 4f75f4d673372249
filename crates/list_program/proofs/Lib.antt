-- What the proofs of the programs cite.
pub mod Answering
pub mod Theorems
