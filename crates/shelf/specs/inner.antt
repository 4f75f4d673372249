-- Inner vocabulary: for the functions of this crate and of the one above it.
pub mod Copies
