-- Laws that belong to no one function: Laws, reading and writing a group; Signs, what a test of a sign tells; theorems, what is proved of the definitions.
mod Laws
mod Signs
pub mod theorems
