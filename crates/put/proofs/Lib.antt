-- Laws of the definitions in specs/, cited by the proofs of every writer. They assume nothing.
pub mod Puts
