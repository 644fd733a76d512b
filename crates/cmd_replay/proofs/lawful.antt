pub mod Changes
pub mod Images
pub mod Points
pub mod Stands
