pub mod Answering
pub mod Serving
pub mod Moments
pub mod Causes
pub mod Logs
pub mod Steps
