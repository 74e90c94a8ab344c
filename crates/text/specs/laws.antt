-- Laws: what is proved, and the definitions that only proofs need.
pub mod Printing
pub mod Paging
pub mod Length
pub mod SaidLaws
pub mod Sheet
pub mod OnlyOne
