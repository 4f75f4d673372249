-- The queue as entries come.
pub mod Queued
