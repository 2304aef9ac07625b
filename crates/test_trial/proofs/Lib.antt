-- The lemmas of this crate.
mod Kept
