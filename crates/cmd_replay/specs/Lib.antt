pub mod Newest
pub mod Points
pub mod Images
pub mod Replays
pub mod Named
pub mod Mounted
pub mod Comparing
pub mod Walking
