-- What the contracts of this crate say of a block in words.
pub mod Worded
