-- What is proved of the definitions.
pub mod Calls
pub mod Over
pub mod Rows
pub mod Twice
