-- What the contracts of the functions speak of, in the edit above too.
pub mod Work
