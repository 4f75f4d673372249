-- What a reader must believe of a clash that is added or struck: Acceptable, Rewritten. inner serves the proofs.
pub mod Acceptable
pub mod Rewritten
pub mod inner
