pub mod Clear
