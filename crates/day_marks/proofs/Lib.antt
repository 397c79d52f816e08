-- Laws of readers that pass missing bytes over, of marks, and of the whole file. They assume nothing.
pub mod Readers
pub mod MarkNumbers
pub mod MarkSlots
pub mod Whole
