-- Answers: what the calls that are made answer. Lines: the pieces of a line, how long they are, and the line by its number.
pub mod Answers
pub mod Lines
