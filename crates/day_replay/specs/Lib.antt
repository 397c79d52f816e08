-- What a replay asks and leaves at each row of a file.
pub mod Rows
