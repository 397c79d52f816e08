-- Laws that the proofs of the functions cite. They assume nothing.
pub mod Word
pub mod Begun
