pub mod Line
pub mod Trace
pub mod Contents
pub mod ReadFields
pub mod ReadLines
pub mod ReadsAs
pub mod Shared
