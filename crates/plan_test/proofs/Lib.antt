-- Laws for the functions' proofs: cells that are counted, the walk over the clashes, and the whole test's answer.
pub mod Cursors
pub mod Decided
pub mod Counted
