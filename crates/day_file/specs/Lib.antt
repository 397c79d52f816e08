-- THE LAW OF THE DAY FILE: what a day is, which bytes carry it in either form, how a day is made again by the calls of the law, when a file is good, and the
-- calls that write it, read it and move it to the other form. A day knows nothing of bytes, `encode` and `decode` nothing of words, and `replay` nothing of bytes.
-- InTurn says how code counts, writes and reads a file, row by row, and DayRules when a day's calls are taken; both are no rules, and are shown to be the same.
pub mod Day
pub mod Bytes
pub mod Decode
pub mod Marks
pub mod Replay
pub mod InTurn
pub mod DayRules
pub mod Calls
