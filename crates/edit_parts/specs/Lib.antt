-- What the parts of an edit of a block by value come to.
pub mod Parts
