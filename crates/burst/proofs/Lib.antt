-- Laws of the runs of host words.
pub mod Blocks
pub mod Turns
