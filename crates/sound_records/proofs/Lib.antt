-- Laws of searches that stop early, and of the bits that the pass keeps. They assume nothing.
pub mod Seen
pub mod RecordRows
