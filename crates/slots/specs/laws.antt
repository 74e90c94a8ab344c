-- Laws: what is proved, and the definitions that only proofs need.
pub mod FreeLaws
pub mod Bits
pub mod Finding
pub mod UpTo
pub mod Taking
pub mod Sheet
pub mod OnlyOne
