-- What has to be believed: definitions.
pub mod Sets
pub mod Shared
-- What is proved of them.
pub mod laws
