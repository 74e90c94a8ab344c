-- What is proved of the definitions.
pub mod OnlyOne
pub mod Refusals
pub mod Trip
