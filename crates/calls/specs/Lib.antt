-- Choices by the calls that are lent no memory.
pub mod Choice
