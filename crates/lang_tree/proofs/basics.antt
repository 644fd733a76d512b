pub mod Order
pub mod Strips
pub mod Finds
pub mod BelowPath
