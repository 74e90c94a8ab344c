-- What is proved of the definitions.
pub mod LowestMember
pub mod Members
pub mod OnlyOne
pub mod SetLaws
pub mod Sheet
