-- Inner vocabulary: for the functions that write lines.
pub mod Cells
