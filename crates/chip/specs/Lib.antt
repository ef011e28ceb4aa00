-- The chip: its record and when it is sound, one definition for each call, over the controller's and the ring's, and the chip as a machine.
pub mod Sound
pub mod Told
pub mod Chip
pub mod Calls
pub mod Machine
