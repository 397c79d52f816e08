-- A section of marks.
pub mod Section
