-- What is proved of request A1: the order of the pairs, what each finding says and under another limit, what no pair
-- means; and the ways through the core, a search that goes on node by node, and that the reply's meaning loses nothing.
pub mod Order
pub mod Findings
pub mod TwoProbes
pub mod Core
pub mod Underway
pub mod Meaning
