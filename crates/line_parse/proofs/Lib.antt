-- Laws of the definitions in specs/, cited by the proofs of the functions. They assume nothing.
pub mod Grammar
pub mod Opening
pub mod Whole
pub mod Counts
pub mod Cases
