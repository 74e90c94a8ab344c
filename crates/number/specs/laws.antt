-- Laws: what is proved, and the definitions that only proofs need.
pub mod WroteLaws
pub mod Steps
pub mod NumberLaws
pub mod ValueLaws
pub mod Sheet
