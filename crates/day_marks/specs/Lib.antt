-- What the judge of a second-form file promises.
pub mod Judged
