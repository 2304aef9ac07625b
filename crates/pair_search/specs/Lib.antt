-- The definitions of change request A1, and what this crate's contracts cite beside them.
pub mod Pairs
pub mod Meaning
pub mod Work
