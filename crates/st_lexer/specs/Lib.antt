pub mod Token
pub mod Lexer
pub mod Source
pub mod Lexeme
pub mod Private
