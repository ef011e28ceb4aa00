-- The controller's definitions: its fields, the words they are built from, and one definition for each register and call.
pub mod Fields
pub mod State
pub mod Step
pub mod Bits
pub mod Transfer
pub mod Read
pub mod Write
pub mod Named
pub mod Decoder
pub mod Host
pub mod Calls
