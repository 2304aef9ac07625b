-- What is proved of suspect sets, for the proofs of this crate's functions and of its callers.
pub mod Sets
