-- What a reader must believe of the calls add, strike and set_cap: Calls. inner serves the functions and the layers above.
pub mod Calls
pub mod inner
