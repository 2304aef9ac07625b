-- The law of removals, the search for a node that uses another, a new node, and what an edit keeps.
pub mod Removal
pub mod Used
pub mod Adding
pub mod Kept
-- What antt computes: edits of two blocks, one whose counts differ, and a node that is used;
pub mod Blocks
-- a run of edits in slices of many lengths;
pub mod LentRuns
-- and the law of renumbering, of which a removal is a case, of nodes that move and one that is taken in between.
pub mod Renumbered
