-- What has to be believed: definitions.
pub mod Below
pub mod Number
pub mod Value
pub mod Answers
pub mod Wrote
pub mod Same
pub mod Stands
-- What is proved of them.
pub mod laws
