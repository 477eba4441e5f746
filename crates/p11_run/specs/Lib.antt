-- The program around a session: the sizes that it runs with, and its exit status and messages.
pub mod Endings
pub mod Launches
pub mod Sessions
