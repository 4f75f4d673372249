-- Theorems: what to cite. Fronts, Parts, Standing: laws of slices and counts, for the layer above too. The others: the proofs.
pub mod Theorems
pub mod Fronts
pub mod Parts
pub mod Standing
pub mod Cells
pub mod Plans
pub mod Agree
pub mod Views
pub mod Ascending
pub mod Rows
pub mod Tallies
pub mod Sums
pub mod ClashPairs
pub mod Apart
pub mod Tested
pub mod Question
