-- Laws: what is proved, and the definitions that only proofs need.
pub mod Sheet
pub mod Fits
pub mod OnlyOne
