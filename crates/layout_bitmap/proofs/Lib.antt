pub mod Written
pub mod Words
pub mod Frees
pub mod Counts
