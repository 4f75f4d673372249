-- Lemmas over lists and records, which the functions' proofs cite, and those of the crates above.
pub mod SortedLists
pub mod Counting
pub mod Collecting
pub mod FreeWaves
pub mod Shows
pub mod Notices
pub mod Tops
