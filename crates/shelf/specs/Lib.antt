-- What a reader must believe of the shelf: Names, and Shelf, its cells and its question 5. inner serves the functions.
pub mod Names
pub mod Shelf
pub mod inner
