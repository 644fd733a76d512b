pub mod Copies
pub mod Nodes
pub mod Snapshots
pub mod Standing
pub mod Making
pub mod Adding
pub mod Taking
