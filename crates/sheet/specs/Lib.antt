-- What has to be believed: definitions.
pub mod Sheet
-- What is proved of them.
pub mod laws
