pub mod Replies
pub mod Code
pub mod Events
pub mod Traces
pub mod Reading
pub mod Inputs
pub mod Progress
