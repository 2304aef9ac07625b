-- What the proofs of this crate share.
pub mod Written
pub mod Known
pub mod Told
pub mod Certificates
