pub mod Headers
pub mod Replays
pub mod Wholes
pub mod Lives
pub mod Recoveries
