-- What a reader must believe of an accepted edit: Edits. inner serves the proofs.
pub mod Edits
pub mod inner
