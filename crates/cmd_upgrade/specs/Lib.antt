pub mod Refusals
pub mod Lacks
pub mod Upgrades
pub mod Plans
pub mod Looks
pub mod Looked
pub mod Filled
