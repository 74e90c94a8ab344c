-- Laws: what is proved, and the definitions that only proofs need.
pub mod Firsts
pub mod PlaceLaws
pub mod Small
pub mod OnlyOne
pub mod Trip
pub mod Again
pub mod AsTold
