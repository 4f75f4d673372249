-- Theorems: what to cite. Kept: its proofs. Forms: what the proofs of the functions cite.
pub mod Forms
pub mod Kept
pub mod Theorems
