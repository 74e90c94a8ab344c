-- What has to be believed: definitions.
pub mod Operation
pub mod Order
pub mod Part
pub mod Cluster
pub mod Tags
pub mod CellPart
pub mod Examples
pub mod Standing
-- What is proved of them.
pub mod laws
