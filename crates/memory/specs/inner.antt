-- What functions below the public calls promise each other.
pub mod Counts
pub mod View
pub mod Test
