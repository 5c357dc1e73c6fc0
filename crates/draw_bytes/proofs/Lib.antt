pub mod Words
pub mod RoundTrip
pub mod VertexBack
pub mod SettingsBack
