-- What a reader must believe of the one function that takes a bank up: CanSteps. inner serves the proofs.
pub mod CanSteps
pub mod inner
