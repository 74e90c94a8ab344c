-- What has to be believed: definitions.
pub mod Row
pub mod Rows
pub mod Examples
pub mod Refusal
pub mod Same
-- What is proved of them.
pub mod laws
