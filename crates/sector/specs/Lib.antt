-- Sectors of mode 1 and mode 2 (ECMA-130, clause 14; paper 01, "Sectors"; paper 02, ask 4): addresses, the layout of each kind, the sealed sector, its
-- judgement, the sector that is received, what each call answers, and what is claimed.
pub mod Address
pub mod Layout
pub mod Sector
pub mod Judge
pub mod Receive
pub mod Calls
pub mod Claims
