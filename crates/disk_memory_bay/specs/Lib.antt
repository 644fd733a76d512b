pub mod MemBay
pub mod Shelves
