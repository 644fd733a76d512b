pub mod ChoiceLists
pub mod Texts
pub mod Program
pub mod Apart
pub mod Steps
pub mod Walk
pub mod Line
pub mod Asked
