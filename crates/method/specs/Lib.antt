-- What has to be believed: definitions.
pub mod Holding
pub mod Decision
pub mod Plan
pub mod Refusals
pub mod About
pub mod Method
pub mod Answers
pub mod Examples
pub mod Same
pub mod Pins
-- What is proved of them.
pub mod laws
