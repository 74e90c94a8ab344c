-- What has to be believed: definitions.
pub mod Called
pub mod Handed
pub mod Together
pub mod Drilled
-- What is proved of them.
pub mod laws
