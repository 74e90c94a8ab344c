-- Laws: what is proved, and the definitions that only proofs need.
pub mod Again
pub mod Away
pub mod Drill
pub mod Plans
pub mod Read
pub mod Scripts
pub mod Stays
pub mod Whole
