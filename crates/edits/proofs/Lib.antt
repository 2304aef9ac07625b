-- What is proved of edits: a block that is loaded by value, what an edit promises, and any run of edits;
-- and calls that would not keep it.
pub mod Loaded
pub mod Promises
pub mod Runs
pub mod Altered
