-- What a reader must believe of the call wave_by_rule: Calls. inner serves the functions and the proofs.
pub mod Calls
pub mod inner
