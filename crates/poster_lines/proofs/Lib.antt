-- What the functions' proofs cite, and the proofs of poster_writer: lines and their columns, and lists cut into lines.
pub mod Each
pub mod Columns
pub mod Pieces
