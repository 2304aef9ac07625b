-- What is proved of the search: lists of pairs that a loop grows, what a pair reports over the work bytes, and blocks
-- that antt computes. What the order and the findings say is proved in `pairs`.
pub mod Growing
pub mod Reports
pub mod Blocks
