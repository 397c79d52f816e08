-- THE LAW: document 01, with the requests that changed it, as definitions over the workspace as a list of words, a file for each of its sections.
-- With the words of terms/specs and the loops of loops/specs that is all that a reader has to believe of the ledger.
pub mod Layout
pub mod Ancestry
pub mod IsSound
pub mod Sound
pub mod RowRules
pub mod Open
pub mod Book
pub mod Readings
pub mod Marks
pub mod Poll
pub mod AsRead
pub mod Calls
pub mod Listing
