-- What the proofs of this crate share, and those of its callers.
pub mod Checked
pub mod Numbers
