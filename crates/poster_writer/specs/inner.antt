-- Inner vocabulary: for the functions under `write_poster`.
pub mod Cells
