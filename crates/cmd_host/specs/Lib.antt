pub mod Mounts
pub mod Behaving
pub mod Disks
pub mod Mounting
pub mod Listed
