-- The tally beside the book, of any machine; of the chip, whatever memory is lent; a run; and machines that are shut out.
pub mod Book
pub mod Lent
pub mod Runs
pub mod Wrong
