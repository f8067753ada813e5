-- What the parser answers, and what its refusals say.
use Rattle.std.specs.Prelude.{ℕ, List}
use Rattle.plc_text.specs.declared.refusal.Refusal.{Refusal}
use Rattle.st_tree.specs.Grammar.{Lexeme}
use Rattle.st_tree.specs.NoUnit.{NoUnitAt, TooDeepAt, IsRefused}
use Rattle.st_parser_decl.specs.declared.reading.Cause.{Cause}
use Rattle.st_parser_decl.specs.declared.reading.Cause.TheVariants.{NoUnit, TooDeep, NoMemory}

-- why the lexemes are no unit in which none is too deep
abbrev pub HasCause : List Lexeme → Cause → Type 0
HasCause ts (NoUnit p) = NoUnitAt ts p
HasCause ts (TooDeep p) = TooDeepAt ts p
HasCause ts NoMemory = Unit {0}

-- the refusal is that of the text with these lexemes: its code, its declaration and its line
abbrev pub Says : List ℕ → List Lexeme → Refusal → Type 0
Says text ts refusal = IsRefused text ts refusal.code refusal.declaration refusal.line
