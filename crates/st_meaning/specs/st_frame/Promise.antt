-- What the checker promises of a program that it accepts, on a page for each thing: its notes are right, types and arguments suit, and
-- types unfold. Whatever is proved of programs that run rests on `ProgramIs` of the last page.

-- which values serve where another type is asked, and which places
pub mod Types
-- a name that is noted to mean something means it, and has the type of its note
pub mod Names
-- a field, an element or a target is one of what stands before it
pub mod Places
-- operands reach the type of the result
pub mod Operators
-- what is called is there, and arguments suit whatever the call may enter
pub mod Calls
-- each expression has the type of its note
pub mod Expressions
-- each statement finds what it changes and asks for
pub mod Statements
-- what a routine declares unfolds and begins in range, and its body is right
pub mod Declarations
-- the classes, routines, regions and tasks of a program are right
pub mod Programs
