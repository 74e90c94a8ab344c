-- What is proved of the definitions.
pub mod Checked
pub mod ClusterTheorem
pub mod Locality
pub mod Operations
pub mod Parts
pub mod Renumber
pub mod Search
pub mod Sheet
pub mod TagTheorem
pub mod Whole
pub mod Zones
