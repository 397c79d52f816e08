-- Laws of bits in a row of words, of their number, and of members as bits. They assume nothing.
pub mod Bits
pub mod Counted
pub mod Members
pub mod MembersTell
pub mod SetBelow
