-- What a reader must believe of kept states: Calls; Between for the theorems. inner serves the functions.
pub mod Calls
pub mod Between
pub mod inner
