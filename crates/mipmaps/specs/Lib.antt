pub mod Mipmaps
