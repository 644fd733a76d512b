pub mod Behaving
pub mod Traces
pub mod Running
pub mod Follows
pub mod Reading
pub mod Weights
pub mod WrongTraces
