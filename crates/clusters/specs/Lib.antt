-- Change request A4 as definitions.
pub mod Clusters
