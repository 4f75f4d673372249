-- For the benchmarks: nothing that a reader of the library must believe.
pub mod inner
