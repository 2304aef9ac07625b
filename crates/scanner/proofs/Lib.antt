-- What this crate's proofs share.
pub mod Lines
pub mod Numbers
pub mod Scans
pub mod Words
