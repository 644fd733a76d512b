pub mod Comparing
pub mod Mirrored
pub mod Copies
pub mod Returns
pub mod Sides
pub mod Steps
