pub mod Lists
pub mod Nodes
pub mod Links
pub mod Marks
pub mod Known
