-- The host's words in bursts.
pub mod Burst
