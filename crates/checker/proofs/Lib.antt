-- What is proved of the ways through the core, and of the node records that are stored.
pub mod Core
pub mod Stored
