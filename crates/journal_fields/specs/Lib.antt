-- What a reader must believe of a journal's bytes: Fields, Numbers; Bounds for the theorems.
pub mod Fields
pub mod Numbers
pub mod Bounds
