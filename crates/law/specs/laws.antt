-- Laws: what is proved, and the definitions that only proofs need.
pub mod Lists
pub mod Sort
pub mod Reads
pub mod Steps
pub mod Decide
pub mod Checked
pub mod Operations
pub mod Zones
pub mod Sheet
