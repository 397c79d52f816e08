-- A name for the step of the query's search; what each reading is stands in the law.
pub mod Steps
