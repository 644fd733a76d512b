pub mod Slots
pub mod Onto
pub mod Free
pub mod Known
pub mod Planned
