-- What a reader must believe of a sheet from anybody: Sheets (what is a sheet, the decision, and the line at fault). inner serves the functions.
pub mod Sheets
pub mod Examples
pub mod inner
