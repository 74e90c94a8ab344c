-- Laws: what is proved, and the definitions that only proofs need.
pub mod Steps
pub mod Stays
pub mod Parts
pub mod Sending
pub mod Loop
pub mod Ordered
