pub mod Least
pub mod Drafting
pub mod Accepting
pub mod Planning
