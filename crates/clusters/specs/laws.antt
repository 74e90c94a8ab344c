-- Laws: what is proved, and the definitions that only proofs need.
pub mod Arrays
pub mod Passing
pub mod Placing
pub mod Bridge
pub mod Shown
pub mod CellLaw
