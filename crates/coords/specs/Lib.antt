pub mod Coords
