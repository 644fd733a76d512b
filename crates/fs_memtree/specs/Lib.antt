pub mod Code
pub mod Kept
pub mod Snapshots
pub mod Stored
pub mod Changes
pub mod Serving
pub mod Trails
pub mod Laws
