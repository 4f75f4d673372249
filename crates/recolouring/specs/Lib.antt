-- What a reader must believe of collecting, assigning and notifying: Recolouring. inner serves the proofs.
pub mod Recolouring
pub mod inner
