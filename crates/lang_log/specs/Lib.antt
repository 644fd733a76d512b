pub mod Spelling
pub mod Names
pub mod Segments
pub mod Log
pub mod Commands
pub mod History
pub mod Runs
pub mod Answers
