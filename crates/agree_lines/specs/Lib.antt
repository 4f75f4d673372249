-- What a reader must believe of what the program agree prints of a sheet: Lines, Verdicts.
pub mod Lines
pub mod Verdicts
