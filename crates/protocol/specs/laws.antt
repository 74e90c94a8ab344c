-- Laws: what is proved, and the definitions that only proofs need.
pub mod FloatingPins
pub mod Place
pub mod Growth
pub mod Frame
