-- A run of edits as definitions, and what the code's turn means in them.
pub mod Meaning
pub mod Turns
