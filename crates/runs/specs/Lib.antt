-- What has to be believed: definitions.
pub mod Exact
pub mod Examples
pub mod Same
-- What is proved of them.
pub mod laws
