-- What a reader must believe of what the program doubt prints: Lines.
pub mod Lines
