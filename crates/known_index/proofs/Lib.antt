-- Laws of the cells that are written. They assume nothing.
pub mod Entered
