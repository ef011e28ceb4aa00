-- The proofs of the claims, and the laws of scrambling that other crates' proofs cite.
pub mod Rule
pub mod Scrambled
pub mod Claims
