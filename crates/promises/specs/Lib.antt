-- THE PROMISES: what a station's engineer may rely on, one named statement each. proofs/ has their proofs, from the law alone.
pub mod Run
pub mod Soundness
pub mod Acceptance
pub mod Editions
pub mod Damage
pub mod Confidence
pub mod Lasting
pub mod Ranges
pub mod Told
pub mod DayFile
pub mod ReadFile
pub mod MoveFile
pub mod NameIndex
pub mod Refusals
