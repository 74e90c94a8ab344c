-- What has to be believed: definitions.
pub mod Words
pub mod Lines
pub mod Examples
-- What is proved of them.
pub mod laws
