pub mod SoundChanges
pub mod SoundMoves
pub mod Sound
pub mod Snapshots
pub mod SnapshotLaws
pub mod Numbered
pub mod Sizes
pub mod PathLaws
