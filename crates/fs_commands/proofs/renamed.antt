pub mod Reasons
pub mod Found
pub mod Answered
pub mod Moves
