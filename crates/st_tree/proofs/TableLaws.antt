-- Terminals are told apart by their places in the tables.
use Rattle.std.proofs.Common.{◌≡◌, ℕ, zero, suc, ◌+◌, ◌<◌, ◌≤◌, Bool, true, false, ◌&&◌, not, List, [], ◌∷◌, length, get_or, Some, None, is_some, refl, sym, ap, ◌∙◌, inl, inr, nat_eq, arith}
use Rattle.std.specs.List.{list_all, All}
use Rattle.std.proofs.lemmas.Bool.{and_parts, both_ways, cases_Bool, cond-true, cond-false, false_from_ne_true, not-true, eqb-true}
use Rattle.std.proofs.lemmas.Slice.Eq.{bytes_eq-Decides}
use Rattle.plc_text.specs.Text.{folded}
use Rattle.plc_text.specs.Words.{same}
use Rattle.st_types.specs.declared.elem.Elem.{Elem}
use Rattle.st_types.specs.declared.elem.Elem.TheVariants as kinds
use Rattle.st_tree.specs.declared.terminal.Terminal.{Terminal}
use Rattle.st_tree.specs.declared.terminal.Terminal.TheVariants as x
use Rattle.st_tree.specs.Terminal.{keyword_terminals, symbol_terminals, terminal_in, IsTable, is_word_or_value}
use Rattle.st_tree.proofs.TerminalLaws.{Row}

-- where a kind stands among the keywords
kind_place : Elem → ℕ
kind_place kinds.Bool = 5
kind_place kinds.Byte = 7
kind_place kinds.Dint = 13
kind_place kinds.Dword = 15
kind_place kinds.Int = 43
kind_place kinds.Lint = 46
kind_place kinds.Lword = 47
kind_place kinds.Sint = 69
kind_place kinds.Time = 75
kind_place kinds.Udint = 79
kind_place kinds.Uint = 80
kind_place kinds.Ulint = 81
kind_place kinds.Usint = 83
kind_place kinds.Word = 93

-- where a terminal stands among the keywords, or behind them among the symbols, or behind these
place_of : Terminal → ℕ
place_of (x.Kind kind) = kind_place kind
place_of x.Abstract = 0
place_of x.And = 1
place_of x.AndThen = 2
place_of x.Array = 3
place_of x.At = 4
place_of x.By = 6
place_of x.Case = 8
place_of x.Class = 9
place_of x.Configuration = 10
place_of x.Constant = 11
place_of x.Continue = 12
place_of x.Do = 14
place_of x.Else = 16
place_of x.Elsif = 17
place_of x.EndCase = 18
place_of x.EndClass = 19
place_of x.EndConfiguration = 20
place_of x.EndFor = 21
place_of x.EndFunction = 22
place_of x.EndFunctionBlock = 23
place_of x.EndIf = 24
place_of x.EndInterface = 25
place_of x.EndMethod = 26
place_of x.EndProgram = 27
place_of x.EndRepeat = 28
place_of x.EndResource = 29
place_of x.EndStruct = 30
place_of x.EndType = 31
place_of x.EndVar = 32
place_of x.EndWhile = 33
place_of x.Exit = 34
place_of x.Extends = 35
place_of x.False = 36
place_of x.Final = 37
place_of x.For = 38
place_of x.Function = 39
place_of x.FunctionBlock = 40
place_of x.If = 41
place_of x.Implements = 42
place_of x.Interface = 44
place_of x.Internal = 45
place_of x.Method = 48
place_of x.Mod = 49
place_of x.NonRetain = 50
place_of x.Not = 51
place_of x.Null = 52
place_of x.Of = 53
place_of x.On = 54
place_of x.Or = 55
place_of x.OrElse = 56
place_of x.Override = 57
place_of x.Persistent = 58
place_of x.Private = 59
place_of x.Program = 60
place_of x.Protected = 61
place_of x.Public = 62
place_of x.Ref = 63
place_of x.RefTo = 64
place_of x.Repeat = 65
place_of x.Resource = 66
place_of x.Retain = 67
place_of x.Return = 68
place_of x.Struct = 70
place_of x.Super = 71
place_of x.Task = 72
place_of x.Then = 73
place_of x.This = 74
place_of x.To = 76
place_of x.True = 77
place_of x.Type = 78
place_of x.Until = 82
place_of x.Var = 84
place_of x.VarExternal = 85
place_of x.VarGlobal = 86
place_of x.VarInput = 87
place_of x.VarInOut = 88
place_of x.VarOutput = 89
place_of x.VarTemp = 90
place_of x.While = 91
place_of x.With = 92
place_of x.Xor = 94
place_of x.Assign = 95
place_of x.Attempt = 96
place_of x.Sends = 97
place_of x.Range = 98
place_of x.AtMost = 99
place_of x.AtLeast = 100
place_of x.Differs = 101
place_of x.Colon = 102
place_of x.Semicolon = 103
place_of x.Comma = 104
place_of x.Dot = 105
place_of x.Open = 106
place_of x.Close = 107
place_of x.OpenBracket = 108
place_of x.CloseBracket = 109
place_of x.Caret = 110
place_of x.Hash = 111
place_of x.Plus = 112
place_of x.Minus = 113
place_of x.Times = 114
place_of x.Slash = 115
place_of x.Equal = 116
place_of x.Less = 117
place_of x.Greater = 118
place_of x.Ampersand = 119
place_of x.Word = 120
place_of x.Int = 121
place_of x.Duration = 122
place_of x.Address = 123

-- the rows' terminals have the places from this one on
abbrev placed : ℕ → List Row → Bool
placed place [] = true
placed place (row ∷ rows) = nat_eq (place_of row.1) place && placed (place + 1) rows

-- no row's text stands in a later row
abbrev distinct : List Row → Bool
distinct [] = true
distinct (row ∷ rows) = not (is_some (terminal_in rows row.0)) && distinct rows

same_text : (text other : List ℕ) → same text other ≡ true → text ≡ other
same_text text other h = (bytes_eq-Decides text other).0 h

same_self : (text : List ℕ) → same text text ≡ true
same_self text = (bytes_eq-Decides text text).1 refl

some_same : (t u : Terminal) → Some t ≡ Some u → t ≡ u
some_same t u e = cc

within : (rows : List Row) (place : ℕ) (text : List ℕ) (t : Terminal) → placed place rows ≡ true → terminal_in rows text ≡ Some t → (place ≤ place_of t) × (place_of t < place + length rows)
within [] place text t p e = absurd (let f : None ≡ Some t = e in cc)
within (row ∷ rows) place text t p e =
    let parts = and_parts (nat_eq (place_of row.1) place) (placed (place + 1) rows) p in
    elim (cases_Bool (same text row.0)) [
      | inl found ↦
          let here : place_of t ≡ place = ap place_of (some_same t row.1 (sym e ∙ cond-true (same text row.0) _ _ found)) ∙ eqb-true _ _ parts.0 in
          (omega arith, omega arith)
      | inr other ↦
          let rest = within rows (place + 1) text t parts.1 (sym (cond-false (same text row.0) _ _ other) ∙ e) in
          (omega (arith, rest.0), omega (arith, rest.1))
    ]

-- what is found in a row is not found behind it
once : (row : Row) (rows : List Row) (place : ℕ) (text : List ℕ) (t : Terminal) → placed place (row ∷ rows) ≡ true → t ≡ row.1 → terminal_in rows text ≡ Some t → ⊥
once row rows place text t p e found =
    let parts = and_parts (nat_eq (place_of row.1) place) (placed (place + 1) rows) p in
    let here : place_of t ≡ place = ap place_of e ∙ eqb-true _ _ parts.0 in
    let rest = within rows (place + 1) text t parts.1 found in
    omega (arith, rest.0)

differ : (rows : List Row) (place : ℕ) → placed place rows ≡ true → (text other : List ℕ) (t : Terminal) → terminal_in rows text ≡ Some t → terminal_in rows other ≡ Some t → text ≡ other
differ [] place p text other t e f = absurd (let g : None ≡ Some t = e in cc)
differ (row ∷ rows) place p text other t e f =
    let parts = and_parts (nat_eq (place_of row.1) place) (placed (place + 1) rows) p in
    elim (cases_Bool (same text row.0)) [
      | inl one ↦
          let is : t ≡ row.1 = some_same t row.1 (sym e ∙ cond-true (same text row.0) _ _ one) in
          elim (cases_Bool (same other row.0)) [
            | inl two ↦ same_text text row.0 one ∙ sym (same_text other row.0 two)
            | inr no_two ↦ absurd (once row rows place other t p is (sym (cond-false (same other row.0) _ _ no_two) ∙ f))
          ]
      | inr no_one ↦
          let behind : terminal_in rows text ≡ Some t = sym (cond-false (same text row.0) _ _ no_one) ∙ e in
          elim (cases_Bool (same other row.0)) [
            | inl two ↦ absurd (once row rows place text t p (some_same t row.1 (sym f ∙ cond-true (same other row.0) _ _ two)) behind)
            | inr no_two ↦ differ rows (place + 1) parts.1 text other t behind (sym (cond-false (same other row.0) _ _ no_two) ∙ f)
          ]
    ]

counts : (rows : List Row) → distinct rows ≡ true → All (λ row. terminal_in rows row.0 ≡ Some row.1) rows
counts [] h k d room = absurd (omega arith)
counts (row ∷ rows) h zero d room = cond-true (same row.0 row.0) _ _ (same_self row.0)
counts (row ∷ rows) h (suc k) d room =
    let parts = and_parts (not (is_some (terminal_in rows row.0))) (distinct rows) h in
    let found = counts rows parts.1 k d (omega arith) in
    cond-false (same (get_or rows k d).0 row.0) _ _ (false_from_ne_true _ (λ s.
    both_ways _ (not-true _ parts.0) (ap (λ text. is_some (terminal_in rows text)) (sym (same_text (get_or rows k d).0 row.0 s)) ∙ ap is_some found)))
    ∙ found

capitals : (rows : List Row) → list_all (λ row. same (folded row.0) row.0) rows ≡ true → All (λ row. folded row.0 ≡ row.0) rows
capitals [] h k d room = absurd (omega arith)
capitals (row ∷ rows) h zero d room = same_text (folded row.0) row.0 (and_parts (same (folded row.0) row.0) (list_all (λ row. same (folded row.0) row.0) rows) h).0
capitals (row ∷ rows) h (suc k) d room = capitals rows (and_parts (same (folded row.0) row.0) (list_all (λ row. same (folded row.0) row.0) rows) h).1 k d (omega arith)

table : (rows : List Row) (place : ℕ) → placed place rows ≡ true → distinct rows ≡ true → list_all (λ row. same (folded row.0) row.0) rows ≡ true → IsTable rows
table rows place p d c = record { each-counts = counts rows d; terminals-differ = differ rows place p; in-capitals = capitals rows c }

pub keyword_table : IsTable keyword_terminals
unfolding keyword_terminals place_of kind_place
keyword_table = table keyword_terminals 0 refl refl refl

pub symbol_table : IsTable symbol_terminals
unfolding symbol_terminals place_of kind_place
symbol_table = table symbol_terminals 95 refl refl refl

keyword_within : (text : List ℕ) (t : Terminal) → terminal_in keyword_terminals text ≡ Some t → place_of t < 95
unfolding keyword_terminals place_of kind_place
keyword_within text t e = (within keyword_terminals 0 text t refl e).1

symbol_within : (text : List ℕ) (t : Terminal) → terminal_in symbol_terminals text ≡ Some t → (95 ≤ place_of t) × (place_of t < 120)
unfolding symbol_terminals place_of kind_place
symbol_within text t e = within symbol_terminals 95 text t refl e

pub apart : (text other : List ℕ) (t : Terminal) → terminal_in keyword_terminals text ≡ Some t → terminal_in symbol_terminals other ≡ Some t → ⊥
apart text other t e f = omega (arith, keyword_within text t e, (symbol_within other t f).0)

other_place : (t : Terminal) → is_word_or_value t ≡ true → 120 ≤ place_of t
unfolding place_of kind_place
other_place x.Word h = omega arith
other_place x.Int h = omega arith
other_place x.Duration h = omega arith
other_place x.Address h = omega arith
other_place _ h = absurd (both_ways false refl h)

pub no_keyword : (text : List ℕ) (t : Terminal) → is_word_or_value t ≡ true → terminal_in keyword_terminals text ≡ Some t → ⊥
no_keyword text t h e = omega (arith, other_place t h, keyword_within text t e)

pub no_symbol : (text : List ℕ) (t : Terminal) → is_word_or_value t ≡ true → terminal_in symbol_terminals text ≡ Some t → ⊥
no_symbol text t h e = omega (arith, other_place t h, (symbol_within text t e).1)
