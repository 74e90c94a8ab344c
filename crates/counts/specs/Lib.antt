-- What has to be believed: definitions.
pub mod Counts
pub mod Sheet
-- What is proved of them.
pub mod laws
