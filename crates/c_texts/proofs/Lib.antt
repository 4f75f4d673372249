-- Theorems: what to cite. For the functions' proofs: Done, what each function leaves; Starting, how long a new journal is.
pub mod Done
pub mod Starting
pub mod Theorems
