pub mod ordering
pub mod spelling
pub mod logs
pub mod pending
