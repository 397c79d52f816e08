-- Laws that the proofs of this crate cite. They assume nothing.
pub mod Difference
pub mod Members
