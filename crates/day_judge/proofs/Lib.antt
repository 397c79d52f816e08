-- Laws of the judge: what is walked and what is left, the readings of a booking and of a poll, the rules, and the whole file. They assume nothing.
pub mod Decides
pub mod Walk
pub mod Rules
pub mod Rows
pub mod Bookings
pub mod Polls
pub mod Settings
pub mod Whole
