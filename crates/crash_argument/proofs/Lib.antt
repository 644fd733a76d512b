pub mod log
pub mod theorem
pub mod steps
pub mod pipe
pub mod mount
