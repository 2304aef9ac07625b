-- What this crate's proofs share, runs that are computed, and what holds of every run.
pub mod Outcomes
pub mod Samples
pub mod Runs
