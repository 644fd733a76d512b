-- The record of a transaction: its blocks are spelled as it says, where they are, and what it keeps of the puts.
pub mod Forms
pub mod Spelled
pub mod Parts
pub mod Sizes
pub mod KeptPuts
