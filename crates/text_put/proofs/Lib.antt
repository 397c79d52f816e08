-- Laws of the definitions in specs/, cited by the proofs of the functions. They assume nothing.
pub mod Decimals
pub mod Signs
pub mod Cases
