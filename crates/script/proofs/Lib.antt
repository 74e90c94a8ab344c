-- Laws that belong to no one function.
mod Filling
mod Reading
pub mod theorems
