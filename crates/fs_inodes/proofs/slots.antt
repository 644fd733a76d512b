pub mod Slots
pub mod NamePlaces
pub mod DirBytes
