-- Laws that belong to no one function.
mod Laws
pub mod theorems
