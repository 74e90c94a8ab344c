-- What has to be believed: definitions.
pub mod Setting
pub mod Tie
pub mod Has
pub mod Reached
-- What is proved of them.
pub mod laws
