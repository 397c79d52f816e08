-- Laws of probing and of the built index. They assume nothing.
pub mod Probing
pub mod Probe
pub mod Tested
pub mod Built
pub mod Cases
