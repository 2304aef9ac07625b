-- What is proved of the parts of a slice, of the parts of the work bytes, of the loops that write a part byte by byte,
-- of the list of a part, and of the bits of a byte.
pub mod Parts
pub mod Work
pub mod Filling
pub mod Present
pub mod Bits
