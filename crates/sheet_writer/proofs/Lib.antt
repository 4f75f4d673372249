-- Theorems: what to cite. The others: its proofs, and what the functions' proofs cite.
pub mod Texts
pub mod Lengths
pub mod Plans
pub mod ReadBack
pub mod Theorems
