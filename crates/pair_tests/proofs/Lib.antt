-- What is proved of the test: two families and their product in bytes of its own.
pub mod Scratch
