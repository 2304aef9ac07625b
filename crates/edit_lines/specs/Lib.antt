-- What a line of edits asks for, as definitions, and what the code's enum means in them.
pub mod Asks
pub mod Meaning
