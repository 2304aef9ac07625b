-- Marks by value.
pub mod Marks
