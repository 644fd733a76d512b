pub mod Costs
pub mod Touched
pub mod Nodes
pub mod Met
