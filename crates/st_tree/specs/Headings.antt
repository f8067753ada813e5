-- The declaration that a place in a text is in, told from the lexemes around it.
use Rattle.std.specs.Prelude.{ℕ, zero, suc, Bool, true, false, List, [], ◌∷◌, length, codes, Option, Some, None, if◌then◌else◌}
use Rattle.std.specs.Option.{option_or, option_map_or}
use Rattle.st_tree.specs.declared.terminal.Terminal.{Terminal}
use Rattle.st_tree.specs.declared.terminal.Terminal.TheVariants as x
use Rattle.st_tree.specs.Token.{Token}
use Rattle.st_tree.specs.Grammar.{Lexeme}
use Rattle.st_tree.specs.Reads.{lexemes}

-- the keywords that begin a declaration
abbrev pub is_heading : Terminal → Bool
is_heading x.Type = true
is_heading x.Interface = true
is_heading x.Class = true
is_heading x.FunctionBlock = true
is_heading x.Function = true
is_heading x.Program = true
is_heading x.Configuration = true
is_heading _ = false

-- what may stand between such a keyword and its name
abbrev pub is_modifier : Terminal → Bool
is_modifier x.Abstract = true
is_modifier x.Final = true
is_modifier _ = false

abbrev pub is_word : Terminal → Bool
is_word x.Word = true
is_word _ = false

-- the name at the front, behind ABSTRACT and FINAL; `-` where none stands there
abbrev pub name_at : List Lexeme → List ℕ
name_at [] = codes "-"
name_at (t ∷ ts) =
    if is_modifier t.terminal then name_at ts
    else if is_word t.terminal then t.text
    else codes "-"

-- what stands behind the last heading among the first n lexemes, if there is one
abbrev pub behind_heading : ℕ → List Lexeme → Option (List Lexeme)
behind_heading zero ts = None
behind_heading (suc n) [] = None
behind_heading (suc n) (t ∷ ts) = option_or (behind_heading n ts) (if is_heading t.terminal then Some ts else None)

-- the declaration, in upper case, of the place that n lexemes stand before: the name behind the last heading among them, though it
-- may stand at that place or behind it; `-` where there is no such heading
abbrev pub declaration_of : ℕ → List Lexeme → List ℕ
declaration_of n ts = option_map_or name_at (behind_heading n ts) (codes "-")

-- the declaration of the place behind all these tokens
abbrev pub declaration_before : List Token → List ℕ
declaration_before tokens = declaration_of (length (lexemes tokens)) (lexemes tokens)
