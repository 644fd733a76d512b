pub mod Places
pub mod Kept
pub mod Making
pub mod Adding
pub mod Taking
