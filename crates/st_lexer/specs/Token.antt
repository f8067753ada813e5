-- A token of the lexer as a token of the text.
use Rattle.st_tree.specs.Token.{Token}
use Rattle.st_lexer.specs.declared.token.Token.{Token as Lexed}

-- without where its text lies in memory
abbrev pub token_view : Lexed → Token
token_view t = record { kind = t.kind; text = t.text.now; span = t.span; line = t.line }
