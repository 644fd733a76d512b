pub mod Name
pub mod Runs
pub mod Seal
pub mod Counts
pub mod Draws
pub mod Layouts
pub mod LayoutLaws
