-- Theorems: what to cite. The others: its proofs, and laws for the functions' proofs.
pub mod Reading
pub mod Forms
pub mod Entries
pub mod Writing
pub mod Bytes
pub mod Numbers
pub mod Later
pub mod Theorems
