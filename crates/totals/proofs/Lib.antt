-- Theorems: what to cite. The others: its proofs.
pub mod Edits
pub mod Lists
pub mod Replays
pub mod Shelves
pub mod Counting
pub mod Owned
pub mod Theorems
