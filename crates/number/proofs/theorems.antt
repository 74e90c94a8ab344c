-- What is proved of the definitions.
pub mod Trip
pub mod OnlyOne
