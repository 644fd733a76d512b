pub mod CallNotices
pub mod LastDisks
pub mod LastFound
pub mod LastPlaces
pub mod PollTickets
pub mod Zeros
pub mod Manners
