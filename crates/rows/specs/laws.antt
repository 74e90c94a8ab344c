-- Laws: what is proved, and the definitions that only proofs need.
pub mod RowLaws
pub mod Storing
pub mod RowTrip
pub mod Trip
pub mod Sheet
