-- What a line of the text program says.
pub mod Line
