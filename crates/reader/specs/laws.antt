-- Laws: what is proved, and the definitions that only proofs need.
pub mod Survey
pub mod SurveySteps
pub mod OnlyOne
