-- What has to be believed: definitions.
pub mod Layout
pub mod Reading
pub mod Writing
pub mod State
pub mod Calls
-- What is proved of them.
pub mod laws
