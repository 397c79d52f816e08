-- What raising, settling and clearing lean on.
pub mod Raising
pub mod Settling
pub mod Clearing
pub mod Walk
