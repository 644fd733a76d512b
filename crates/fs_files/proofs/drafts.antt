pub mod Lists
pub mod Listed
pub mod Opened
pub mod Opening
pub mod Refused
pub mod Alone
