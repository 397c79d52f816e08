-- What a word is worth.
pub mod Numbers
