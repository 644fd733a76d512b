pub mod Refusal
pub mod Mount
