-- What has to be believed: definitions.
pub mod Chains
pub mod Table
-- What is proved of them.
pub mod laws
