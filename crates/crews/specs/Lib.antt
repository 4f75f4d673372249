-- What a reader must believe of crews: Day, Calls. Examples tests them. inner serves the functions and the proofs.
pub mod Day
pub mod Calls
pub mod Examples
pub mod inner
