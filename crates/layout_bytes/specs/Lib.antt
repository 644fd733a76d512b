pub mod Bytes
pub mod Bitmap
pub mod Node
pub mod NodeLaws
pub mod SnapshotName
pub mod Slot
