-- Laws that several proofs cite. They assume nothing.
pub mod Ledgers
pub mod Walked
pub mod Settles
