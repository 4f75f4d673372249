-- What a reader must believe of a plan's lines, their foot and a text of them: Lines, Foot, Calls. inner serves the functions.
pub mod Lines
pub mod Foot
pub mod Calls
pub mod inner
