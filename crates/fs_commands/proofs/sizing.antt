pub mod Resized
pub mod Reasons
