-- Laws of what a line does, cited by the proofs of the functions. They assume nothing.
pub mod Known
pub mod Short
pub mod Serving
