-- Laws of the ring's place and memory.
pub mod Blocks
pub mod Represents
