pub mod Headers
pub mod Parts
pub mod Wholes
pub mod Runs
pub mod Passing
