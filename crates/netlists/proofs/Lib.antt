-- What is proved of the definitions, for the proofs of this crate's functions and of its callers.
pub mod Netlists
pub mod Without
pub mod Bytes
