-- What stands in the slices before a check, and from which number on it still stands there.
pub mod Before
