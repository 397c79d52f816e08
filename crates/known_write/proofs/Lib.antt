-- Laws of a written file, cited by the proofs of the functions. They assume nothing.
pub mod Written
