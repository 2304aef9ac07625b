-- What is proved of the lines that the commands print.
pub mod Desk
