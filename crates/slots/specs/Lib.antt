-- What has to be believed: definitions.
pub mod Free
pub mod Words
pub mod Same
-- What is proved of them.
pub mod laws
