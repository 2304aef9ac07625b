-- What it is for a block to be held by value.
pub mod Held
