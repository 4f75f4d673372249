-- Theorems: what to cite. The others: its proofs.
pub mod Clashes
pub mod Answers
pub mod Demanded
pub mod Accepted
pub mod Theorems
