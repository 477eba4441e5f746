-- The KW11-L line clock.
pub mod LineClock
pub mod Calls
