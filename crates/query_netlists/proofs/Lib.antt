-- What is proved of the way to a query's reply, for this crate's functions and those that answer.
pub mod Asking
