-- What a reader must believe of these functions of the C library: Shelves, what each answers and leaves.
pub mod Shelves
