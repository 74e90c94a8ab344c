-- What has to be believed: definitions.
pub mod Pairs
-- What is proved of them.
pub mod laws
