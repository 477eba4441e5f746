-- The console's language: the lines of a script, and the text of each answer and fault.
pub mod AnswerText
pub mod FaultTable
pub mod Escapes
pub mod LineEnd
pub mod Grammar
pub mod Reading
pub mod Writers
pub mod Written
pub mod Calls
