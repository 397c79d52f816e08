-- A law that joins printing and reading. It assumes nothing.
pub mod Decimals
