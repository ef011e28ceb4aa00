-- The tally of good blocks: the definition and its claims, a run that shows that they are not vacuous, and machines that they shut out.
pub mod Tally
pub mod Claims
pub mod Runs
pub mod Wrong
