-- Laws of a good file's replay, cited by the proofs of the functions. They assume nothing.
pub mod Rows
pub mod Turns
pub mod GoodFile
