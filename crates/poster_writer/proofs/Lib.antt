-- Theorems: what to cite. The others: its proofs, and what the functions' proofs cite.
pub mod Members
pub mod Cells
pub mod Pages
pub mod ReadBack
pub mod Shown
pub mod Plans
pub mod Theorems
