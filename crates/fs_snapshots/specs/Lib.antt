pub mod Kept
pub mod Tables
pub mod Refused
pub mod Known
pub mod Among
pub mod Nodes
