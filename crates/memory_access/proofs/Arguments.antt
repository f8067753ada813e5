-- The arguments of a call: to which parameters they go, and which of their values are large.
use Rattle.std.proofs.Common.{◌≡◌, ◌≢◌, ◌≤◌, ℕ, suc, ◌+◌, Bool, true, false, List, [], ◌∷◌, Some, refl, ap, ◌∙◌, arith, inl, inr}
use Rattle.std.specs.Prelude.{if◌then◌else◌, ◌⊎◌, slice_get, nat_lt}
use borrow.Author.Tests.{ltb-true, ltb-false}
use Rattle.mem_image.specs.Laws.{AreApart}
use Rattle.st_tree.specs.declared.program.Note.{Note}
use Rattle.st_tree.specs.Expression.{Positional, Input, Output, Arguments, no_arguments, argument_then}
use Rattle.st_values.specs.Program.{Parameter, Recipient, to_local, to_variable}
use Rattle.st_values.specs.Value.{Value}
use Rattle.st_meaning.specs.st_frame.Promise.Calls.{kind, next_number}
use Rattle.st_meaning.specs.st_frame.Promise.Declarations.{IsLocal}
use Rattle.st_meaning.specs.Call.{given_value, parameter_number, next_parameter, behind_next, number_to, parameter_named, is_output}
use Rattle.code_rules.specs.Places.{of_parameter}
use Rattle.code_rules.specs.Plan.{Plan}
use Rattle.code_rules.specs.Code.{passed_room}
use Rattle.shown_memory.specs.Passing.{recipient, value_given}

abbrev pub argument_numbers : ℕ → List Parameter → Arguments Note → List ℕ
argument_numbers i left no_arguments = []
argument_numbers i left (argument_then (Positional e) xs) = next_number i left ∷ argument_numbers (suc (next_number i left)) (behind_next left) xs
argument_numbers i left (argument_then (Input a name e) xs) = parameter_number a.target ∷ argument_numbers i left xs
argument_numbers i left (argument_then (Output a name b q ss) xs) = argument_numbers i left xs

abbrev pub IsIn : List ℕ → ℕ → Type 0
IsIn [] j = ⊥
IsIn (n ∷ ns) j = (n ≡ j) ⊎ IsIn ns j

abbrev pub Once : List ℕ → Type 0
Once [] = Unit {0}
Once (n ∷ ns) = (IsIn ns n → ⊥) × Once ns

pub eights_apart : (n j : ℕ) → (n ≡ j → ⊥) → AreApart (of_parameter n) 8 (of_parameter j) 8
eights_apart n j h = by (nat_lt n j) refl
  where
    by : (b : Bool) → nat_lt n j ≡ b → (of_parameter n + 8 ≤ of_parameter j) ⊎ (of_parameter j + 8 ≤ of_parameter n)
    by true e = let l = ltb-true n j e in inl (omega (arith, l))
    by false e = let l = ltb-false n j e in let d : n ≢ j = h in inr (omega (arith, l, d))

pub to_recipient : (to : Recipient) (v : Value) → to ≡ recipient (given_value to v)
to_recipient (to_local n) v = refl
to_recipient (to_variable k) v = refl

-- up to where the bytes behind the block are in use when all arguments are given
module _ (w : Plan) where
  abbrev pub arguments_end : ℕ → List Parameter → List Parameter → Arguments Note → ℕ
  arguments_end free ps left no_arguments = free
  arguments_end free ps left (argument_then (Positional e) xs) = arguments_end (free + passed_room w (next_parameter left) (kind e)) ps (behind_next left) xs
  arguments_end free ps left (argument_then (Input a name e) xs) = arguments_end (free + passed_room w (parameter_named ps a) (kind e)) ps left xs
  arguments_end free ps left (argument_then (Output a name b q ss) xs) = arguments_end free ps left xs

pub value_once : (to : Recipient) (v w : Value) → value_given (given_value to v) ≡ Some w → v ≡ w
value_once (to_local n) v w e = cc
value_once (to_variable k) v w e = cc

pub local_of : (q : Parameter) → IsLocal q.to → q.to ≡ to_local (number_to q.to)
local_of q h = by q.to h
  where
    by : (to : Recipient) → IsLocal to → to ≡ to_local (number_to to)
    by (to_local n) h = refl
    by (to_variable k) h = absurd h

-- the next parameter and those behind it
pub next_there : (ps left : List Parameter) (i : ℕ) → ((j : ℕ) → slice_get ps (i + j) ≡ slice_get left j) → slice_get ps (next_number i left) ≡ next_parameter left
next_there ps [] i h = let e : i ≡ i + 0 = omega arith in ap (slice_get ps) e ∙ h 0
next_there ps (q ∷ qs) i h = by (is_output q.sort) (next_there ps qs (suc i) (λ j. let e : suc i + j ≡ i + suc j = omega arith in ap (slice_get ps) e ∙ h (suc j)))
  where
    by : (b : Bool) → slice_get ps (next_number (suc i) qs) ≡ next_parameter qs → slice_get ps (if b then next_number (suc i) qs else i) ≡ (if b then next_parameter qs else Some q)
    by true k = k
    by false k = let e : i ≡ i + 0 = omega arith in ap (slice_get ps) e ∙ h 0

pub behind_there : (ps left : List Parameter) (i : ℕ) → ((j : ℕ) → slice_get ps (i + j) ≡ slice_get left j) → (j : ℕ) → slice_get ps (suc (next_number i left) + j) ≡ slice_get (behind_next left) j
behind_there ps [] i h j = let e : suc i + j ≡ i + suc j = omega arith in ap (slice_get ps) e ∙ h (suc j)
behind_there ps (q ∷ qs) i h j = by (is_output q.sort) (behind_there ps qs (suc i) (λ j. let e : suc i + j ≡ i + suc j = omega arith in ap (slice_get ps) e ∙ h (suc j)) j)
  where
    by : (b : Bool) → slice_get ps (suc (next_number (suc i) qs) + j) ≡ slice_get (behind_next qs) j → slice_get ps (suc (if b then next_number (suc i) qs else i) + j) ≡ slice_get (if b then behind_next qs else qs) j
    by true k = k
    by false k = let e : suc i + j ≡ i + suc j = omega arith in ap (slice_get ps) e ∙ h (suc j)
