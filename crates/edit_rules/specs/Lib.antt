-- Change request A3 as definitions, and what the types of this crate mean in it.
pub mod Edits
pub mod Meaning
