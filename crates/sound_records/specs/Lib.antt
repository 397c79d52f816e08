-- The bits that the pass over the records keeps, so that it never looks back, and what it asks of the rows from n on.
pub mod Ordinals
pub mod Rest
