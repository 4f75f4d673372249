-- What a reader must believe of writing the poster and of reading it: Calls, Reading; the poster is in poster_lines. inner serves the functions.
pub mod Calls
pub mod Reading
pub mod inner
