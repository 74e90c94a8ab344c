-- What is proved of the definitions.
pub mod Sweeping
pub mod Taking
pub mod Visiting
