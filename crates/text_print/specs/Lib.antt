-- What the text program prints: answers, and the lines of the listing.
pub mod Print
pub mod Columns
