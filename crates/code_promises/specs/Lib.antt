-- THE PROMISES OF THE CODE: what holds of every call that the contracts of the public functions allow.
pub mod Contract
pub mod OfCode
pub mod OfMoves
