-- Theorems: what to cite. The others: its proofs, and what proofs above cite.
pub mod Letters
pub mod Shown
pub mod Plans
pub mod Members
pub mod Writing
pub mod Totals
pub mod Theorems
