pub mod Begun
pub mod Unread
pub mod Scripts
