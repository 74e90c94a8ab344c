-- What has to be believed: definitions.
pub mod Text
pub mod Pages
pub mod Said
-- What is proved of them.
pub mod laws
