pub mod Scanning
pub mod Damage
pub mod Lawful
