-- The filter over the names so far, so that a new name is told without a look back.
pub mod Names
