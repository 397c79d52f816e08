-- Laws of the program and its pieces, cited by the proofs of the functions. They assume nothing.
pub mod Lines
pub mod Pieces
pub mod Program
pub mod Written
pub mod Keeping
pub mod Example
pub mod Readings
pub mod Stays
pub mod Editions
