-- What any edit shares, what the functions that take a new node share, and those that remove one.
pub mod Changing
pub mod Adding
pub mod Removing
