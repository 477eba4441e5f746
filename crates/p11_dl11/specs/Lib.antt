-- The DL11 console line: its receiver, its transmitter, and their registers.
pub mod StatusRegister
pub mod ReceiverState
pub mod ReceiverEvents
pub mod TransmitterState
pub mod TransmitterEvents
pub mod LineState
pub mod LineEvents
pub mod Laws
pub mod Calls
