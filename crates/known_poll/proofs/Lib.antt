-- Laws that several proofs cite, or that speak of the definitions alone. They assume nothing.
pub mod Polled
