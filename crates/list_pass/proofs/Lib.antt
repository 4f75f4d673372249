-- Theorems: what to cite. The others: its proofs, and laws for the functions' proofs.
pub mod Struck
pub mod Passing
pub mod Beginning
pub mod Fits
pub mod Kept
pub mod Lists
pub mod Theorems
