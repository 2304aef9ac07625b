-- What is proved of what commands are given, for this crate and the program.
pub mod Known
