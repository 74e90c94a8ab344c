-- Laws: what is proved, and the definitions that only proofs need.
pub mod FloatingPins
pub mod Tests
pub mod SoundLaws
pub mod PlanLaws
pub mod Table
pub mod RefusalExamples
pub mod Decided
pub mod Owed
pub mod Fresh
pub mod OnlyOne
