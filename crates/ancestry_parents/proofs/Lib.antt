-- A law that the proofs of this crate cite. It assumes nothing.
pub mod UnusedPlaces
