-- What is proved of the definitions.
pub mod Advance
pub mod Counting
pub mod Hearing
pub mod Lawful
pub mod Next
pub mod Pairs
pub mod Promise
pub mod Quiet
pub mod Runs
pub mod SettingLaws
pub mod Slot
pub mod Starting
pub mod Taking
pub mod Tied
