-- What is proved of the families in the work bytes, and of each kind's operands.
pub mod Nodes
pub mod Operands
