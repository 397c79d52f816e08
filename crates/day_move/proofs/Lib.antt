-- Laws of a move.
pub mod Moves
