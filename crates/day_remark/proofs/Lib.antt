-- Laws of a section of marks, cited by the proofs of the functions. They assume nothing.
pub mod MarksRead
