-- The ring: its place, and its blocks in lent memory.
pub mod Place
pub mod Memory
pub mod Represents
