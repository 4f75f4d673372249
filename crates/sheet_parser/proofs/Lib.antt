-- Theorems: what to cite. The others: its proofs.
pub mod Tests
pub mod Numbers
pub mod Lines
pub mod Sheets
pub mod Decision
pub mod Faults
pub mod Theorems
