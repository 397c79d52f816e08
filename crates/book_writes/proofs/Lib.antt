-- Laws that the proofs of the functions cite. They assume nothing.
pub mod Rows
pub mod Held
