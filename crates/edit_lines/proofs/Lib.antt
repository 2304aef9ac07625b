-- What this crate's proofs share.
pub mod Asks
pub mod Samples
