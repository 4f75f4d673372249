-- What a reader must believe of the call that reads a list: Pass; of the theorems: Ends. inner serves the functions.
pub mod Pass
pub mod Ends
pub mod inner
