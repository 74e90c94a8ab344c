-- What has to be believed: definitions.
pub mod Entry
pub mod Record
pub mod Legal
pub mod Answers
pub mod Examples
pub mod Named
pub mod Same
-- What is proved of them.
pub mod laws
