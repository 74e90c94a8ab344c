-- What is proved of the definitions.
pub mod Atomic
pub mod Example
pub mod Pairs
pub mod Stays
pub mod Steps
