pub mod BlockSums
pub mod BlockMoves
pub mod BlockChanges
pub mod BlockLaws
pub mod Figures
pub mod Touching
