-- What an edit of a block by value comes to.
pub mod Changes
