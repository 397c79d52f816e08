-- Bits in a row of words, and members as such bits.
pub mod Bits
pub mod Members
