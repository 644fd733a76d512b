pub mod Agree
pub mod Steps
