pub mod Memory
pub mod Adapter
pub mod Prefix
