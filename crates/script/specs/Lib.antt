-- What has to be believed: definitions.
pub mod Script
pub mod Answers
pub mod Examples
pub mod Same
-- What is proved of them.
pub mod laws
