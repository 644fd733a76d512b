pub mod Found
pub mod Puts
pub mod Written
pub mod Reasons
