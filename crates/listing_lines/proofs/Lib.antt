-- What is proved of a text that is being written to a slice.
pub mod Text
