-- What this program's proofs share.
pub mod Samples
