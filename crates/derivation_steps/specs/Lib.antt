-- What the types of this crate mean.
pub mod Meaning
