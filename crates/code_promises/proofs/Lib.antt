-- Which functions are spoken of, and the proofs of their promises. They assume nothing.
pub mod Functions
pub mod Callable
pub mod Lawful
pub mod Answers
pub mod OfCode
pub mod OfMoves
