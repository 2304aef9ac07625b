-- What the reply of this crate means, and what its contracts say of a derivation that is being written.
pub mod Meaning
pub mod Written
