-- A chip's record as words.
pub mod Words
