-- What the words of a line are.
pub mod Words
