-- Laws of the table of how many bookings each slot has. They assume nothing.
pub mod Counts
