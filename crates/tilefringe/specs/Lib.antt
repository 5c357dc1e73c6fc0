pub mod Target
pub mod TextureCalls
pub mod SampleCalls
pub mod DrawCalls
