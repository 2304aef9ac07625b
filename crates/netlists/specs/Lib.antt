-- What this crate's contracts cite.
pub mod Netlists
pub mod Kinds
