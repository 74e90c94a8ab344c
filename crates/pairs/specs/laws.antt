-- Laws: what is proved, and the definitions that only proofs need.
pub mod Noting
pub mod Next
pub mod Pairing
pub mod Enough
