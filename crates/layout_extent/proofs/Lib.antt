pub mod Places
pub mod Count
pub mod Cut
pub mod Add
pub mod Renewed
pub mod Renewing
