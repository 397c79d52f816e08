-- What looking the parents up leaves, and the refusals that come after it.
pub mod Parents
