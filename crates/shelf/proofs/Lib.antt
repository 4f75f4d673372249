-- The laws of the shelf, each on those before it.
pub mod Bytes
pub mod Putting
pub mod Places
