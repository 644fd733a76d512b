pub mod PathCounts
pub mod Totals
