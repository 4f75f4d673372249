-- Inner vocabulary: for the functions under `write_sheet`.
pub mod Cells
