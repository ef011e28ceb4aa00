-- Scrambling of a sector (paper 01, "Sectors"; ECMA-130, Annex B): the table, the rule of its bits, what is done with it, and what is claimed of it.
pub mod Table
pub mod Rule
pub mod Scramble
pub mod Claims
