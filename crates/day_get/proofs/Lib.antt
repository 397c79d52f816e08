-- Laws of numbers in a file's bytes, cited by the proofs of the functions. They assume nothing.
pub mod Got
