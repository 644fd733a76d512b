pub mod Keys
pub mod Lists
pub mod Numbers
pub mod Found
