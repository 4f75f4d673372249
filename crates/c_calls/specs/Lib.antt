-- What a reader must believe of these functions of the C library: Calls, what each answers and leaves. In c_cells: how cells carry the tally and the
-- results.
pub mod Calls
