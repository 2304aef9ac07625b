-- Change request A5 as definitions.
pub mod Derivations
