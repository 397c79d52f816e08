-- What follows from the definitions in specs/. It assumes nothing.
pub mod Cases
pub mod Rows
pub mod Lines
