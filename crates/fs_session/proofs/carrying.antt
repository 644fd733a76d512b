pub mod Points
pub mod Carried
