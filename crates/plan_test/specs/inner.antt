-- What functions below question 5 promise each other.
pub mod Walk
