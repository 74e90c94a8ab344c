-- What is proved of the definitions.
pub mod Again
pub mod AsTold
pub mod StateLaws
pub mod Trip
