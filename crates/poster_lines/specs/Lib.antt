-- What a reader must believe of the poster's lines and pages: Poster. inner serves the functions.
pub mod Poster
pub mod inner
