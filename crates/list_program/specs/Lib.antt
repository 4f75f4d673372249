-- What a reader must believe of the programs: Answers, and Writing, what is asked of the function that writes their text.
pub mod Answers
pub mod Writing
