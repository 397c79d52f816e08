-- The slots that have a mark, a bit for each.
pub mod MarkedSlots
