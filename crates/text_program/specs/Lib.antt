-- The text program as one definition, what a function that serves a part of it leaves, what a loop over the parts writes, and what the words are.
pub mod Program
pub mod Piece
pub mod Written
pub mod Keeping
