pub mod Totals
pub mod Costs
