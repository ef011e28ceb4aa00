-- What is known of bits and of a start; every other proof stands with its function.
pub mod Bits
pub mod Starts
