-- What a reader must believe of what the program crew prints: Lines, Plans, Answers. inner serves the functions.
pub mod Lines
pub mod Plans
pub mod Answers
pub mod inner
