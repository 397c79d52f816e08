-- What a writer leaves in a lent buffer.
pub mod Put
