-- What reading and printing share.
pub mod Bytes
