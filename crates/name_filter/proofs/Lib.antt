-- Laws of the filter. They assume nothing.
pub mod Names
