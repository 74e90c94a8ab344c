-- What is proved, and the definitions that only proofs need.
pub mod laws
