-- Queues: what to cite. The others: lemmas over numbers and lists, which the functions' proofs cite.
pub mod Bits
pub mod Writing
pub mod Lowest
pub mod Banks
pub mod Putting
pub mod Ranks
pub mod Taking
pub mod Queues
