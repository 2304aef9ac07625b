-- What is proved of derivations; in `Blocks` and `Refuted` facts that antt computes.
pub mod Lowest
pub mod Derivation
pub mod Choice
pub mod Follows
pub mod Doubling
pub mod Blocks
pub mod Refuted
