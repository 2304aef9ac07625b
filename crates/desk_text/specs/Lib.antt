-- What the contracts of this crate say of the lines that commands print.
pub mod Desk
