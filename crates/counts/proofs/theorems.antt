-- What is proved of the definitions.
pub mod PlanCounts
pub mod InUse
pub mod Requests
