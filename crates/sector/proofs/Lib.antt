-- The proofs of the claims, and the laws that other crates' proofs cite.
pub mod Addresses
pub mod Layouts
pub mod Frames
pub mod Answers
pub mod Sealed
pub mod Received
pub mod Changes
pub mod Checked
pub mod Damage
pub mod FourFacts
pub mod Examples
pub mod TwoKinds
pub mod Claims
