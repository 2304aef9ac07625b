-- What antt computes from the rules: the table P1 to P14, which is `replies` of `Blocks`, and examples. What is proved
-- of the rules for every netlist is in `rule_laws`.
pub mod Each
pub mod Blocks
pub mod BlockCounts
pub mod BlockOutputs
