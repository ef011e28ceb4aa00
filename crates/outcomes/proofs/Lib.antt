-- What each call of the controller makes of its invariant, of the book and of the row, and what follows for the row machine.
pub mod Consistent
pub mod Starts
pub mod Outcome
pub mod Writes
pub mod Calls
pub mod Stored
pub mod Rows
