-- The table that the pass over the slot entries goes by.
pub mod Held
