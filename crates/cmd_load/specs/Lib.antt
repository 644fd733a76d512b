pub mod Summary
pub mod Trees
pub mod Serving
