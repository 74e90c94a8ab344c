-- What has to be believed: definitions.
pub mod Standing
pub mod Reading
pub mod Writes
-- What is proved of them.
pub mod laws
