-- Counting: the laws of the counts.
pub mod Counting
