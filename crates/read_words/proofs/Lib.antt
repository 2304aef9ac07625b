-- What this crate's proofs share.
pub mod Forms
pub mod Lines
pub mod Records
pub mod Samples
pub mod Stores
