-- What C's calls answer and leave: the machine or the console that a handle holds, files in rows, registers and statuses as
-- numbers.
pub mod Calls
pub mod Held
pub mod HeldCalls
pub mod HeldRuns
pub mod Registers
pub mod Rows
pub mod ScriptReads
pub mod ConsoleCalls
pub mod ConsoleSlots
pub mod HeldConsoles
pub mod Slots
pub mod Statuses
pub mod Typed
