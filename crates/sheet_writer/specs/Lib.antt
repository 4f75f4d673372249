-- What a reader must believe of the sheet: Sheet, Calls, Reading. Examples tests them, and the rule with them. inner serves the functions.
pub mod Sheet
pub mod Calls
pub mod Reading
pub mod Examples
pub mod inner
