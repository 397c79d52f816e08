-- What the word that begins a line asks for.
pub mod Keywords
