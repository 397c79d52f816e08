-- What one line of the text program does.
pub mod Serve
