-- The parity of a sector (ECMA-130, Annex A): the field, a word of any length, the layout, the parity written and checked, and what is claimed.
pub mod Field
pub mod Word
pub mod Layout
pub mod Parity
pub mod Rows
pub mod Claims
