-- What has to be believed: definitions.
pub mod Verdict
pub mod Answers
pub mod Examples
pub mod Same
-- What is proved of them.
pub mod laws
