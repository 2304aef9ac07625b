-- What is proved of marks by value.
pub mod Layers
