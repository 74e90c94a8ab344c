-- Laws that belong to no one function.
mod Laws
mod Filling
pub mod theorems
