-- Laws: what is proved, and the definitions that only proofs need.
pub mod Record
pub mod Clients
pub mod Wire
pub mod Moves
pub mod Meeting
