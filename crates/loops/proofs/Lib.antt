-- Laws of the definitions in specs/, one file for each, and of tests joined by `&&`, `||`, `not` and `cond`. They assume nothing.
pub mod Turns
pub mod Search
pub mod Total
pub mod Fill
pub mod Rows
pub mod Elements
pub mod Bools
pub mod Chains
