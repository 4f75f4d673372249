-- What a reader must believe of an edit under a cap: Capped. inner serves the functions and the layers above.
pub mod Capped
pub mod inner
