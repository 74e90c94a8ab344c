-- What belongs to no one function: theorems, what is proved of the definitions.
pub mod theorems
