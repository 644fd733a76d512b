pub mod keys
pub mod rows
pub mod maps
pub mod outputs
pub mod serving
