-- The eight bytes that are listed at a time.
pub mod Eight
