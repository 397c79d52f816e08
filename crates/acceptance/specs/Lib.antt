-- Which slots have a mark, as the pass goes. What is marked stands in the law.
pub mod SlotsNoted
