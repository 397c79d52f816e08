-- What the tests of single rows ask of their caller.
pub mod HasBookings
