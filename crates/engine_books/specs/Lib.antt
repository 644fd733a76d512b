pub mod Books
pub mod Kept
pub mod Point
pub mod Taking
pub mod Sealing
