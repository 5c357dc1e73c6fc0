pub mod Bytes
pub mod RoundTrip
pub mod Pasted
pub mod Lone
pub mod Defined
