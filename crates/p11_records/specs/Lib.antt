-- What a record is worth: what runs and lines do again, and the law of a console's record.
pub mod Again
pub mod Dialogue
