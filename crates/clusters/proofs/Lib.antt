-- What is proved of request A4: `many_probes` and `many_wires` of `ManyProbes`, and of a block that is clear for
-- glitches `clear_probes` and `clear_wires`; of a gate by its own mark `checked_unmarked` and `open_unmarked` of
-- `Unmarked`. Clusters for which the same is false, and a gate that is clear where another is not, are in `Blocks`,
-- and what is proved, of that gate, in `Uses`.
pub mod Following
pub mod ManyProbes
pub mod Unmarked
pub mod Blocks
pub mod Uses
