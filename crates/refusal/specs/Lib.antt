-- What has to be believed: definitions.
pub mod Number
