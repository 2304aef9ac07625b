-- What the contracts of this crate say of a text that is being written.
pub mod Text
