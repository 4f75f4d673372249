-- inner serves the functions: what question 5 is stands in memory.
pub mod inner
