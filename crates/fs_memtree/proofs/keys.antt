pub mod Keys
pub mod InOrder
pub mod Copies
pub mod Snaps
