pub mod Laid
pub mod Begun
pub mod Leaves
pub mod Looked
