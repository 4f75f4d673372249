-- Theorems: what to cite. The others: its proofs.
pub mod Numbers
pub mod NoClash
pub mod Rooms
pub mod Rows
pub mod Outcomes
pub mod After
pub mod Made
pub mod RanksSet
pub mod Caps
pub mod Lengths
pub mod Theorems
