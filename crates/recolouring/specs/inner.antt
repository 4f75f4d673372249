-- What the contracts of the functions speak of: Notices in the step above too, Tops up to the edit.
pub mod Notices
pub mod Tops
