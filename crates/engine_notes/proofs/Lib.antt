pub mod Few
pub mod Marks
pub mod Open
pub mod Rising
