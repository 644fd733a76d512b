pub mod Bytes
pub mod Cuts
pub mod OneTrace
pub mod Blanks
pub mod Digits
pub mod LinesRead
pub mod RefusalsRead
pub mod ReadPromises
