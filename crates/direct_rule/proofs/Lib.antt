-- Theorems: what to cite. The others: its proofs.
pub mod Numbers
pub mod Search
pub mod Theorems
