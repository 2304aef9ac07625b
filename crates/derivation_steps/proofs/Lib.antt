-- What the proofs of this crate and of its callers share.
pub mod Claims
pub mod Bytes
