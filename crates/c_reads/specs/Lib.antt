-- What a reader must believe of the calls of the C library that read a plan: Reads, Crews, Sheets; in c_cells, how cells carry the tally and the results.
pub mod Reads
pub mod Crews
pub mod Sheets
