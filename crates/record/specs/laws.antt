-- Laws: what is proved, and the definitions that only proofs need.
pub mod Steps
pub mod Sheet
pub mod EntryTrip
pub mod Trip
