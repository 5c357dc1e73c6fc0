pub mod Paletted
