-- The keywords and the symbols of the grammar with what each is to it, and which words may name something.
use Rattle.std.specs.Prelude.{◌≡◌, ◌⊎◌, ℕ, Bool, true, false, ◌&&◌, not, List, [], ◌∷◌, map, codes, Option, Some, None, if◌then◌else◌}
use Rattle.std.specs.List.{All}
use Rattle.plc_text.specs.Text.{folded}
use Rattle.plc_text.specs.Words.{same, is_one_of, is_word}
use Rattle.st_types.specs.declared.elem.Elem.TheVariants as kind
use Rattle.st_tree.specs.declared.terminal.Terminal.{Terminal}
use Rattle.st_tree.specs.declared.terminal.Terminal.TheVariants as x

-- the words of the grammar and the elementary types, which the language keeps for itself (IEC 61131-3:2013, 6.1.3)
unfoldable pub keyword_terminals : List (List ℕ × Terminal)
keyword_terminals =
    (codes "ABSTRACT", x.Abstract) ∷
    (codes "AND", x.And) ∷
    (codes "AND_THEN", x.AndThen) ∷
    (codes "ARRAY", x.Array) ∷
    (codes "AT", x.At) ∷
    (codes "BOOL", x.Kind kind.Bool) ∷
    (codes "BY", x.By) ∷
    (codes "BYTE", x.Kind kind.Byte) ∷
    (codes "CASE", x.Case) ∷
    (codes "CLASS", x.Class) ∷
    (codes "CONFIGURATION", x.Configuration) ∷
    (codes "CONSTANT", x.Constant) ∷
    (codes "CONTINUE", x.Continue) ∷
    (codes "DINT", x.Kind kind.Dint) ∷
    (codes "DO", x.Do) ∷
    (codes "DWORD", x.Kind kind.Dword) ∷
    (codes "ELSE", x.Else) ∷
    (codes "ELSIF", x.Elsif) ∷
    (codes "END_CASE", x.EndCase) ∷
    (codes "END_CLASS", x.EndClass) ∷
    (codes "END_CONFIGURATION", x.EndConfiguration) ∷
    (codes "END_FOR", x.EndFor) ∷
    (codes "END_FUNCTION", x.EndFunction) ∷
    (codes "END_FUNCTION_BLOCK", x.EndFunctionBlock) ∷
    (codes "END_IF", x.EndIf) ∷
    (codes "END_INTERFACE", x.EndInterface) ∷
    (codes "END_METHOD", x.EndMethod) ∷
    (codes "END_PROGRAM", x.EndProgram) ∷
    (codes "END_REPEAT", x.EndRepeat) ∷
    (codes "END_RESOURCE", x.EndResource) ∷
    (codes "END_STRUCT", x.EndStruct) ∷
    (codes "END_TYPE", x.EndType) ∷
    (codes "END_VAR", x.EndVar) ∷
    (codes "END_WHILE", x.EndWhile) ∷
    (codes "EXIT", x.Exit) ∷
    (codes "EXTENDS", x.Extends) ∷
    (codes "FALSE", x.False) ∷
    (codes "FINAL", x.Final) ∷
    (codes "FOR", x.For) ∷
    (codes "FUNCTION", x.Function) ∷
    (codes "FUNCTION_BLOCK", x.FunctionBlock) ∷
    (codes "IF", x.If) ∷
    (codes "IMPLEMENTS", x.Implements) ∷
    (codes "INT", x.Kind kind.Int) ∷
    (codes "INTERFACE", x.Interface) ∷
    (codes "INTERNAL", x.Internal) ∷
    (codes "LINT", x.Kind kind.Lint) ∷
    (codes "LWORD", x.Kind kind.Lword) ∷
    (codes "METHOD", x.Method) ∷
    (codes "MOD", x.Mod) ∷
    (codes "NON_RETAIN", x.NonRetain) ∷
    (codes "NOT", x.Not) ∷
    (codes "NULL", x.Null) ∷
    (codes "OF", x.Of) ∷
    (codes "ON", x.On) ∷
    (codes "OR", x.Or) ∷
    (codes "OR_ELSE", x.OrElse) ∷
    (codes "OVERRIDE", x.Override) ∷
    (codes "PERSISTENT", x.Persistent) ∷
    (codes "PRIVATE", x.Private) ∷
    (codes "PROGRAM", x.Program) ∷
    (codes "PROTECTED", x.Protected) ∷
    (codes "PUBLIC", x.Public) ∷
    (codes "REF", x.Ref) ∷
    (codes "REF_TO", x.RefTo) ∷
    (codes "REPEAT", x.Repeat) ∷
    (codes "RESOURCE", x.Resource) ∷
    (codes "RETAIN", x.Retain) ∷
    (codes "RETURN", x.Return) ∷
    (codes "SINT", x.Kind kind.Sint) ∷
    (codes "STRUCT", x.Struct) ∷
    (codes "SUPER", x.Super) ∷
    (codes "TASK", x.Task) ∷
    (codes "THEN", x.Then) ∷
    (codes "THIS", x.This) ∷
    (codes "TIME", x.Kind kind.Time) ∷
    (codes "TO", x.To) ∷
    (codes "TRUE", x.True) ∷
    (codes "TYPE", x.Type) ∷
    (codes "UDINT", x.Kind kind.Udint) ∷
    (codes "UINT", x.Kind kind.Uint) ∷
    (codes "ULINT", x.Kind kind.Ulint) ∷
    (codes "UNTIL", x.Until) ∷
    (codes "USINT", x.Kind kind.Usint) ∷
    (codes "VAR", x.Var) ∷
    (codes "VAR_EXTERNAL", x.VarExternal) ∷
    (codes "VAR_GLOBAL", x.VarGlobal) ∷
    (codes "VAR_INPUT", x.VarInput) ∷
    (codes "VAR_IN_OUT", x.VarInOut) ∷
    (codes "VAR_OUTPUT", x.VarOutput) ∷
    (codes "VAR_TEMP", x.VarTemp) ∷
    (codes "WHILE", x.While) ∷
    (codes "WITH", x.With) ∷
    (codes "WORD", x.Kind kind.Word) ∷
    (codes "XOR", x.Xor) ∷
    []

unfoldable pub symbol_terminals : List (List ℕ × Terminal)
symbol_terminals =
    (codes ":=", x.Assign) ∷
    (codes "?=", x.Attempt) ∷
    (codes "=>", x.Sends) ∷
    (codes "..", x.Range) ∷
    (codes "<=", x.AtMost) ∷
    (codes ">=", x.AtLeast) ∷
    (codes "<>", x.Differs) ∷
    (codes ":", x.Colon) ∷
    (codes ";", x.Semicolon) ∷
    (codes ",", x.Comma) ∷
    (codes ".", x.Dot) ∷
    (codes "(", x.Open) ∷
    (codes ")", x.Close) ∷
    (codes "[", x.OpenBracket) ∷
    (codes "]", x.CloseBracket) ∷
    (codes "^", x.Caret) ∷
    (codes "#", x.Hash) ∷
    (codes "+", x.Plus) ∷
    (codes "-", x.Minus) ∷
    (codes "*", x.Times) ∷
    (codes "/", x.Slash) ∷
    (codes "=", x.Equal) ∷
    (codes "<", x.Less) ∷
    (codes ">", x.Greater) ∷
    (codes "&", x.Ampersand) ∷
    []

-- what the first pair with this text stands for
abbrev pub terminal_in : List (List ℕ × Terminal) → List ℕ → Option Terminal
terminal_in [] text = None
terminal_in (row ∷ rows) text = if same text row.0 then Some row.1 else terminal_in rows text

-- the texts of a table
abbrev pub texts_of : List (List ℕ × Terminal) → List (List ℕ)
texts_of rows = map (λ row. row.0) rows

abbrev pub keywords : List (List ℕ)
keywords = texts_of keyword_terminals

-- a word that the language keeps for itself, in upper or lower case
abbrev pub is_keyword : List ℕ → Bool
is_keyword word = is_one_of keywords word

-- a word that may name something
abbrev pub is_name : List ℕ → Bool
is_name text = is_word text && not (is_keyword text)

abbrev pub symbols : List (List ℕ)
symbols = texts_of symbol_terminals

abbrev pub is_symbol : List ℕ → Bool
is_symbol text = is_one_of symbols text

-- a table in which no text and no terminal stands twice, and no text has small letters
pub record IsTable (rows : List (List ℕ × Terminal)) : Type 0 where
  pub each-counts : All (λ row. terminal_in rows row.0 ≡ Some row.1) rows
  pub terminals-differ : (text other : List ℕ) (t : Terminal) → terminal_in rows text ≡ Some t → terminal_in rows other ≡ Some t → text ≡ other
  pub in-capitals : All (λ row. folded row.0 ≡ row.0) rows

-- the terminals that are no keyword's and no symbol's
abbrev pub is_word_or_value : Terminal → Bool
is_word_or_value x.Word = true
is_word_or_value x.Int = true
is_word_or_value x.Duration = true
is_word_or_value x.Address = true
is_word_or_value _ = false

-- the terminal is that of a word or a value, a keyword's or a symbol's
abbrev pub IsOfSomeText : Terminal → Type 0
IsOfSomeText t =
    (is_word_or_value t ≡ true)
    ⊎ (((text : List ℕ) × (terminal_in keyword_terminals text ≡ Some t))
    ⊎ ((text : List ℕ) × (terminal_in symbol_terminals text ≡ Some t)))
