-- What the words of the program's command line ask for.
-- What the words of the program's command line ask for.
pub mod CommandLine
