pub mod Named
pub mod Counted
