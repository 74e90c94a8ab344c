-- What is proved of the definitions.
pub mod Agrees
pub mod Back
pub mod Judged
pub mod Plans
