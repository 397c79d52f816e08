-- THE LAW OF THE NAME INDEX: how a name is hashed, where probing leads, what an index holds once it is built, and the calls.
pub mod Hash
pub mod Index
pub mod AsRead
pub mod Calls
