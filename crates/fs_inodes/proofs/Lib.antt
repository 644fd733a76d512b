pub mod basics
pub mod slots
pub mod agreement
pub mod commands
pub mod lookups
pub mod sums
pub mod scanning
