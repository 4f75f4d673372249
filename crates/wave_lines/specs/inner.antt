-- Inner vocabulary, of this crate and of those that write a text.
pub mod Cells
