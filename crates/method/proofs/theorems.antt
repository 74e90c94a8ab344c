-- What is proved of the definitions.
pub mod FloatingPins
pub mod MethodLaws
pub mod OnlyOne
pub mod InTurn
