pub mod Numbers
pub mod Words
pub mod Dead
pub mod Calls
pub mod Inside
