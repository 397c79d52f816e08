-- What a caller from outside is told.
pub mod Returned
