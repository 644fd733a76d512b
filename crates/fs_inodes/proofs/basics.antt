pub mod Paths
pub mod FinMaps
pub mod Numbers
