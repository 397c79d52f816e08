-- Definitions that recurse as loops count. A loop's invariant is then one line: what is done so far is the definition so far.
pub mod Turns
pub mod Search
pub mod Total
pub mod Fill
pub mod Rows
