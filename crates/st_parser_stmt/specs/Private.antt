-- The words of the rules of statements and initial values, from which the parser of declarations goes on.
pub mod Numbers
pub mod Machine
pub mod Promises
