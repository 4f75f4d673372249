-- Theorems: what to cite. The others: its proofs, and laws for the functions' proofs.
pub mod Writing
pub mod Growing
pub mod Ranks
pub mod Adds
pub mod Counting
pub mod Starting
pub mod Recording
pub mod Turns
pub mod RanksInTurn
pub mod AddsInTurn
pub mod Presents
pub mod NewJournals
pub mod RecordedEdits
pub mod Numbers
pub mod Theorems
