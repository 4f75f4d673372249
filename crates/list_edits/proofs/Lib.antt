-- The banks and the queue as rows come.
pub mod Queued
