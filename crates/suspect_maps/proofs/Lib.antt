-- What is proved of maps of sets.
pub mod Maps
