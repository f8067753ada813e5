-- How deep a lexeme stands: what is open before it, and the signs in a row just before it.
use Rattle.std.specs.Prelude.{◌≡◌, ℕ, ◌+◌, ◌-◌, ◌<◌, Bool, true, false, List, [], ◌∷◌, length, take, map, reverse, if◌then◌else◌}
use Rattle.st_tree.specs.declared.terminal.Terminal.{Terminal}
use Rattle.st_tree.specs.declared.terminal.Terminal.TheVariants as x
use Rattle.st_tree.specs.Grammar.{Lexeme}

-- what another terminal closes
abbrev pub opens : Terminal → Bool
opens x.Open = true
opens x.OpenBracket = true
opens x.If = true
opens x.Case = true
opens x.For = true
opens x.While = true
opens x.Repeat = true
opens x.Struct = true
opens _ = false

abbrev pub closes : Terminal → Bool
closes x.Close = true
closes x.CloseBracket = true
closes x.EndIf = true
closes x.EndCase = true
closes x.EndFor = true
closes x.EndWhile = true
closes x.EndRepeat = true
closes x.EndStruct = true
closes _ = false

-- an operand ends with it, so `-` behind it is no sign
abbrev pub ends_operand : Terminal → Bool
ends_operand x.Word = true
ends_operand x.Int = true
ends_operand x.Duration = true
ends_operand x.Close = true
ends_operand x.CloseBracket = true
ends_operand x.Caret = true
ends_operand x.True = true
ends_operand x.False = true
ends_operand x.Null = true
ends_operand x.This = true
ends_operand x.Super = true
ends_operand _ = false

-- what is open behind a terminal, where so much is open before it; what closes nothing counts nothing
abbrev pub open_with : Terminal → ℕ → ℕ
open_with t n = if opens t then n + 1 else if closes t then n - 1 else n

-- NOT and signs in a row up to a terminal, from those before it and whether an operand ends there
abbrev pub signs_with : Terminal → Bool → ℕ → ℕ
signs_with x.Not ended signs = signs + 1
signs_with x.Minus ended signs = if ended then 0 else signs + 1
signs_with _ ended signs = 0

-- of the terminals before a place, the nearest first: how many are open, whether an operand ends with the nearest, and the signs in a row
abbrev pub open_before : List Terminal → ℕ
open_before [] = 0
open_before (t ∷ before) = open_with t (open_before before)

abbrev pub ended_before : List Terminal → Bool
ended_before [] = false
ended_before (t ∷ before) = ends_operand t

abbrev pub signs_before : List Terminal → ℕ
signs_before [] = 0
signs_before (t ∷ before) = signs_with t (ended_before before) (signs_before before)

abbrev pub nearest_first : List Lexeme → List Terminal
nearest_first ts = reverse (map (λ t. t.terminal) ts)

-- behind these lexemes
abbrev pub nesting_behind : List Lexeme → ℕ
nesting_behind ts = open_before (nearest_first ts) + signs_before (nearest_first ts)

-- of the lexeme at i
abbrev pub nesting : List Lexeme → ℕ → ℕ
nesting ts i = nesting_behind (take i ts)

-- no lexeme before i has nesting 65
abbrev pub NoneDeep : List Lexeme → ℕ → Type 0
NoneDeep ts i = (j : ℕ) → j < i → nesting ts j ≡ 65 → ⊥

-- the lexeme at i is the first of nesting 65
pub record FirstDeep (ts : List Lexeme) (i : ℕ) : Type 0 where
  pub within : i < length ts
  pub deep : nesting ts i ≡ 65
  pub before : NoneDeep ts i
