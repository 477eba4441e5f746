-- What the host of a dialogue decides.
pub mod Hosts
pub mod Clocks
