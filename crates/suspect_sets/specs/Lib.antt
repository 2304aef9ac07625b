-- What this crate's contracts cite.
pub mod Sets
