-- What only this crate's own functions speak of, and those of queue_places.
pub mod Words
pub mod Ties
