-- Proofs of the encoding.
pub mod Laid
pub mod Moved
pub mod Packet
pub mod Switches
