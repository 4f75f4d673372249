-- What a reader must believe of these functions of the C library: Texts, what each answers and leaves.
pub mod Texts
