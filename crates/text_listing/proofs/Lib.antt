-- Laws of the listing, cited by the proofs of the functions. They assume nothing.
pub mod Rows
pub mod Run
