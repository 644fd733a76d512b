pub mod Limits
pub mod Areas
