-- What is proved of them.
pub mod laws
