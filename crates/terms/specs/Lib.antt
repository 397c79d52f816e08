-- THE WORDS OF THE LAW: when a setting is good, where the editions differ, what an answer tells, what a vote byte and a state word say.
pub mod Setting
pub mod Editions
pub mod Answers
pub mod Votes
