pub mod Snapshots
pub mod Snapped
pub mod Changed
pub mod Reasons
pub mod Naming
pub mod Mapped
pub mod Served
pub mod Kept
