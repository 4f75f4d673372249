-- For the functions' proofs and those of the C library: Fronts, cells at the front of a slice; Rooms, short slices; Results, one result made of an
-- answer; Calls, calls on cells.
pub mod Fronts
pub mod Rooms
pub mod Results
pub mod Calls
