pub mod Mounting
pub mod Answering
pub mod Cuts
