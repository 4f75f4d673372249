-- Theorems: what to cite. The others: its proofs.
pub mod Degrees
pub mod Calls
pub mod Theorems
