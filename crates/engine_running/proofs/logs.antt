-- What writes add to a log, and what a commit leaves.
pub mod Logs
pub mod Outcomes
pub mod Stays
