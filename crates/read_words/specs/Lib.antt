-- What this crate's contracts cite.
pub mod Meaning
pub mod Words
