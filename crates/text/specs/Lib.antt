-- What a reader must believe of text: Text, Numbers, Places; Unpadded serves one theorem. inner serves the functions.
pub mod Text
pub mod Numbers
pub mod Places
pub mod Unpadded
pub mod inner
