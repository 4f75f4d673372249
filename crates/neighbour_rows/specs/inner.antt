-- What the contracts of one row and of one bank speak of.
pub mod Rows
