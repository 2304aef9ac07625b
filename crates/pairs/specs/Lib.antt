-- What the reply of this crate means, and a search that is under way.
pub mod Meaning
pub mod Underway
