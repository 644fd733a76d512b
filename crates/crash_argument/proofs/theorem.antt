pub mod Geometries
pub mod Images
pub mod Core
pub mod Stands
pub mod Whole
