-- Laws: what the bits of the code's sets are in the definitions.
mod Laws
pub mod theorems
