-- Inner vocabulary: for functions of the benchmarks.
pub mod HeldCall
