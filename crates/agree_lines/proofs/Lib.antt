-- Verdicts: what the calls answer, and the lines by the number.
pub mod Verdicts
