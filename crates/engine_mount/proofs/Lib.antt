pub mod Founds
pub mod States
pub mod Replays
pub mod Opens
pub mod OnlyWrite
pub mod Writes
