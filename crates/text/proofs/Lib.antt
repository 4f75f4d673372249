-- Theorems: what to cite. The others: its proofs, and laws for the proofs of functions here and above.
pub mod Places
pub mod Pieces
pub mod Without
pub mod Digits
pub mod Numbers
pub mod Decimal
pub mod Joined
pub mod Putting
pub mod Theorems
