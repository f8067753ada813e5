-- A lexeme of the code as one of the grammar.
use Rattle.std.specs.Prelude.{List, map, Option, Some, None}
use Rattle.plc_text.specs.Text.{folded}
use Rattle.st_tree.specs.declared.marks.Marks.{Marks}
use Rattle.st_tree.specs.Grammar.{Lexeme}
use Rattle.st_tree.specs.Reads.{no_marks}
use Rattle.st_lexer.specs.declared.lexeme.Lexeme as code

-- the marks, of which there may be none
abbrev pub marks_of : Option Marks → Marks
marks_of None = no_marks
marks_of (Some marks) = marks

abbrev pub lexeme_of : code.Lexeme → Lexeme
lexeme_of t = record { terminal = t.terminal; text = folded t.text.now; line = t.line; marks = marks_of t.marks }

abbrev pub lexemes_of : List code.Lexeme → List Lexeme
lexemes_of ts = map lexeme_of ts
