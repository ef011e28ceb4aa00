-- Calls and machines, the book, the controller's invariant with what a call makes of it, and the row machine.
pub mod Machine
pub mod Book
pub mod Invariant
pub mod Row
