-- The cases of document 01, computed from the definitions in specs/, and rules of single definitions.
pub mod Same
pub mod Walk
pub mod Rules
pub mod Cases
