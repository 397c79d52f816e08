-- Laws of the rule's short ways. They assume nothing.
pub mod Rule
