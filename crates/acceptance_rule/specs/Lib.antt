-- A name for the step of the search over parents; what the rule is stands in the law.
pub mod Steps
