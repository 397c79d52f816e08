-- Laws that several proofs cite. They assume nothing.
pub mod Few
