-- Laws of sections in a lent buffer, cited by the proofs of the functions. They assume nothing.
pub mod Sections
pub mod Ranges
