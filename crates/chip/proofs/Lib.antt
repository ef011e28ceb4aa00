-- Laws of the chip's definitions: what soundness says, and the answers that the proofs of its calls cite.
pub mod Sounds
pub mod Answers
