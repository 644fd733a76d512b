pub mod basics
pub mod counting
pub mod walking
pub mod moves
pub mod soundness
pub mod blocks
pub mod runs
pub mod Sharing
