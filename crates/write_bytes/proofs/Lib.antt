-- What is proved of the records of a netlist and of an open block.
pub mod Records
