-- Laws of the slots that have a mark. They assume nothing.
pub mod SlotsNoted
