-- Laws of the definitions in specs/, cited by the proofs of the functions. They assume nothing.
pub mod Split
pub mod Walk
pub mod Leading
