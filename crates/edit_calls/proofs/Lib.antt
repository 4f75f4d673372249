-- Theorems: what to cite. The others: its proofs.
pub mod Caps
pub mod Calls
pub mod EditCalls
pub mod Theorems
