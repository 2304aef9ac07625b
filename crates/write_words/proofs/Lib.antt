-- What is proved of lines in words; that a block's words, read again, are the block (`words_again`
-- of `ReadAgain`); and examples.
pub mod Worded
pub mod Reading
pub mod ReadAgain
pub mod Blocks
