-- What has to be believed: definitions.
pub mod View
pub mod Message
pub mod Move
pub mod Invariant
pub mod Tagged
pub mod Later
pub mod Examples
-- What is proved of them.
pub mod laws
