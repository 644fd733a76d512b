pub mod Entries
pub mod EventLines
mod Sureness
mod Weights
mod WrongTraces
pub mod Runs
pub mod RecordingLemmas
pub mod ReadingLemmas
mod Quiet
