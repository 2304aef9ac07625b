-- What this crate's contract cites.
pub mod Input
