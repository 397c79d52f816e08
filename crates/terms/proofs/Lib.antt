-- Cases of the definitions in specs/, computed, and the laws of states and of editions.
pub mod Cases
pub mod States
pub mod Editions
pub mod Answers
