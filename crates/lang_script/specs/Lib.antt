pub mod Decimal
pub mod Text
pub mod Grammar
pub mod Values
pub mod Shared
