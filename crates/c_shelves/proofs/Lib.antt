-- Theorems: what to cite. Done, for the functions' proofs: what each function leaves.
pub mod Done
pub mod Theorems
