-- Laws of the definitions in specs/. They assume nothing.
pub mod Equal
