-- What the judge of a file promises of each part: that its bytes are those of what they are read as, and that this is by the rules.
pub mod Parts
pub mod Judged
