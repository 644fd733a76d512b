pub mod Taking
pub mod Opened
pub mod Cuts
