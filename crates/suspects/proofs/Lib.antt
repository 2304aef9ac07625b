-- What is proved of the scan, for the proofs of this crate's functions and of its callers.
pub mod Search
