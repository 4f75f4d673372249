-- What functions below the public call promise each other.
pub mod Rows
