-- What only this crate's own functions speak of.
pub mod Recount
pub mod Change
pub mod Seeds
