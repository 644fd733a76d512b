pub mod Runs
pub mod Next
pub mod TidyLaws
pub mod Renew
