pub mod Image
pub mod Texels
pub mod Plain
pub mod Lent
