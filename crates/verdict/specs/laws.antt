-- Laws: what is proved, and the definitions that only proofs need.
pub mod OnlyOne
pub mod Refusals
pub mod Sheet
pub mod Bench
pub mod Repeats
pub mod Judging
