-- What a reader must believe of starting a journal and recording in it: Calls; of the theorems: Present, Written. inner serves the functions.
pub mod Calls
pub mod Present
pub mod Written
pub mod inner
