-- What has to be believed: definitions.
pub mod Places
pub mod Sound
pub mod Looking
pub mod Refusals
pub mod Run
pub mod Counts
pub mod Answers
pub mod Examples
pub mod RefusalExamples
pub mod Same
-- What is proved of them.
pub mod laws
