-- What a reader must believe of the call check_sheet: Calls (what it answers) and Demands (what a sheet is accepted for). inner serves the functions and the
-- proofs.
pub mod Calls
pub mod Demands
pub mod inner
