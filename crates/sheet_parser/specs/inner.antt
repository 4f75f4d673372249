-- What functions below the public call promise each other.
pub mod Numbers
pub mod Lines
