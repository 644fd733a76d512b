pub mod Alterings
pub mod Nodes
pub mod Setting
pub mod Taking
pub mod Adding
