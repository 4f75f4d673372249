-- What functions below the public calls promise each other.
pub mod Cells
