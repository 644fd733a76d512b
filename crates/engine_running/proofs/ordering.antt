-- Rows of puts and taken blocks, which ascend: with one more or less, and as a map.
pub mod RowSteps
pub mod RowOrder
pub mod Numbers
pub mod Begins
pub mod PutsMap
