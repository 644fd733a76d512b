pub mod Grammar
pub mod Text
pub mod Reading
