pub mod Renewed
pub mod Counted
pub mod Edges
pub mod Placed
pub mod Copied
pub mod Outside
pub mod Stretches
pub mod Ranges
