-- Laws that the faces share. They assume nothing.
pub mod Telling
