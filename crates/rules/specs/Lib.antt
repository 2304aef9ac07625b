-- Document 01 as definitions, section by section, each file after those that it cites; first the two
-- shapes that the sections share.
pub mod Lists
pub mod Tables
pub mod Records
pub mod Values
pub mod Families
pub mod Checks
pub mod Slices
pub mod Queries
pub mod Listing
pub mod Blocks
pub mod Demands
pub mod Paper
