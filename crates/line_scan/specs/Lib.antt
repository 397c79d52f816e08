-- What the words after the first are: the next one, numbers, votes, and lists of them.
pub mod Steps
pub mod Lists
