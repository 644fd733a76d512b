pub mod Change
pub mod Kept
pub mod Marks
pub mod Sums
pub mod Way
