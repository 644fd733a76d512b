pub mod FileBay
pub mod FileDisk
pub mod Notices
