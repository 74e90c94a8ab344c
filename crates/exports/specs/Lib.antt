-- What has to be believed: definitions.
pub mod Packed
pub mod Unpacked
-- What is proved of them.
pub mod laws
