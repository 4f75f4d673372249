-- Theorems: what to cite. The others: its proofs, and laws for the functions' proofs.
pub mod Passing
pub mod FirstField
pub mod Replaying
pub mod SameEdits
pub mod Holds
pub mod Refusals
pub mod Caps
pub mod Theorems
