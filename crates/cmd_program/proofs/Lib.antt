pub mod ProgramLemmas
mod Requests
mod Scripts
mod Calm
mod Pairs
mod LogEndings
mod LeftLogs
