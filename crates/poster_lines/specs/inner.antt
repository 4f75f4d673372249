-- Inner vocabulary: for the functions that write lines, and those of poster_writer.
pub mod Lines
