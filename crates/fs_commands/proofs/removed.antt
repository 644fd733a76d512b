pub mod Links
pub mod Slots
pub mod Names
pub mod Accepted
pub mod Planned
pub mod Refused
pub mod Decided
