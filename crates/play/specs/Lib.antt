-- What has to be believed: definitions.
pub mod Play
pub mod Answers
pub mod Same
-- What is proved of them.
pub mod laws
