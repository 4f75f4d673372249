-- What a reader must believe of a list's rows: Rows. Unpadded serves the theorem on rows without padding.
pub mod Rows
pub mod Unpadded
