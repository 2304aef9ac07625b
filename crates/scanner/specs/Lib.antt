-- What this crate's contracts cite.
pub mod Numbers
pub mod Scans
pub mod Words
