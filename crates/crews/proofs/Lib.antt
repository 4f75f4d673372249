-- Theorems: what to cite. The others: its proofs.
pub mod Starts
pub mod Least
pub mod Numbers
pub mod Divided
pub mod Steps
pub mod Days
pub mod Answers
pub mod Agree
pub mod Theorems
pub mod Stored
