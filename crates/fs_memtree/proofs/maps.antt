pub mod Slots
pub mod Walking
pub mod Depth
pub mod TreeOf
