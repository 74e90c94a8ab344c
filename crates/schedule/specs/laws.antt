-- Laws: what is proved, and the definitions that only proofs need.
pub mod Turns
