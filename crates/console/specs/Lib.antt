-- What the program's own functions say: what a read told, and which words are left.
pub mod Console
