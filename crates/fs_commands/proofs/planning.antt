pub mod Answers
pub mod Looking
pub mod Looks
pub mod Behind
pub mod Before
