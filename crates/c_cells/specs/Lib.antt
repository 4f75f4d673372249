-- What a reader must believe of the cells that a caller in C lends: CellMemory, what they carry; Lent, as the contracts name them. inner
-- serves the functions.
pub mod CellMemory
pub mod Lent
pub mod inner
