pub mod Reading
pub mod Candidate
pub mod Search
pub mod Epoch
pub mod Payload
