-- What constant expressions come to, case by case.
use Rattle.std.proofs.Common.{◌≡◌, ℕ, ℤ, ◌^◌, Bool, true, false, List, [], ◌∷◌, ◌++◌, Option, refl, sym, ap, ◌∙◌, arith}
use Rattle.std.specs.Prelude.{pos, neg_ℤ, negsuc, int_le, nat_lt, if◌then◌else◌, ◌&&◌, not}
use Rattle.std.proofs.lemmas.Grind.{common_steps}
use Rattle.plc_text.specs.declared.code.Code.TheVariants.{E07, E13}
use Rattle.st_types.specs.declared.elem.Elem.{Elem}
use Rattle.st_types.specs.declared.elem.Elem.TheVariants as kind
use Rattle.st_types.specs.declared.st_type.StType.{StType}
use Rattle.st_types.specs.declared.st_type.StType.TheVariants as type
use Rattle.st_types.specs.Range.{lowest, highest}
use Rattle.st_tree.specs.declared.expression.Literal.{Literal}
use Rattle.st_tree.specs.declared.expression.Operator.{Operator}
use Rattle.st_tree.specs.declared.expression.Operator.TheVariants as operator
use Rattle.st_tree.specs.declared.program.Target.{Target}
use Rattle.st_tree.specs.declared.program.Target.TheVariants as target
use Rattle.st_tree.specs.Duration.{milliseconds}
use Rattle.st_tree.specs.Number.{number_of}
use Rattle.st_tree.specs.Expression.{Expression, Positional, Input, Output, Arguments, no_arguments, argument_then}
use Rattle.st_rules.specs.declared.asked.Asked.{Asked}
use Rattle.st_rules.specs.declared.asked.Asked.TheVariants.{Anything, Wanted, Untold}
use Rattle.st_rules.specs.Faults.{Faults}
use Rattle.st_rules.specs.Kinds.{dint, is_elementary, is_number}
use Rattle.st_rules.specs.Literals.{holds, fits_type, int_faults, negative_faults, negative_type, negative_taken, past_64_bits, number_past_its_type, typed_literal_faults, is_wrong_truth, literal_number, truth_of_another_kind, literal_past_its_kind, time_past_32_bits}
use Rattle.st_rules.specs.Scope.{Scope}
use Rattle.st_rules.specs.Calls.{a_conversion, heads, Head, names_input, names_output, callee_faults, matching_faults, positional_and_named_mixed, wrong_number_of_positional, named_unknown_or_twice, in_out_left_out, operand_parameter}
use Rattle.st_unit_rules.specs.declared_names.Constants.{Outcome, comes_to, divides_by_zero, cannot_be_told, is_division, is_zero, both, if_true, if_false, operated, outcome_map, literal_outcome, duration_outcome, target_value, is_told, result_of}
use Rattle.accepted_texts.specs.told_units.Formed.{HaveNames}
use Rattle.st_rules.proofs.Booleans.{and-both, both as both_true}
use Rattle.accepted_texts.proofs.told_units.TypeLaws.{AsksForTold, none-of, holds-not, passes}

-- a value, or a zero divisor
abbrev pub IsSettled : Outcome → Type 0
IsSettled cannot_be_told = ⊥
IsSettled _ = Unit {0}

-- ---- operators

chosen-settled : (b : Bool) (x y : Outcome) → IsSettled x → IsSettled y → IsSettled (if b then x else y)
chosen-settled true x y h k = h
chosen-settled false x y h k = k

both-settled : (o : Operator) (e : Elem) (l : ℕ) (x y : Outcome) → IsSettled x → IsSettled y → IsSettled (both o e l x y)
both-settled o e l (comes_to a) (comes_to b) h k = chosen-settled (is_division o && is_zero b) (divides_by_zero l) (comes_to (result_of o e a b)) tt tt
both-settled o e l (comes_to a) (divides_by_zero m) h k = tt
both-settled o e l (comes_to a) cannot_be_told h k = absurd k
both-settled o e l (divides_by_zero m) y h k = tt
both-settled o e l cannot_be_told y h k = absurd h

true-settled : (x y : Outcome) → IsSettled x → IsSettled y → IsSettled (if_true x y)
true-settled (comes_to a) y h k = chosen-settled (is_zero a) (comes_to a) y tt k
true-settled (divides_by_zero l) y h k = tt
true-settled cannot_be_told y h k = absurd h

false-settled : (x y : Outcome) → IsSettled x → IsSettled y → IsSettled (if_false x y)
false-settled (comes_to a) y h k = chosen-settled (is_zero a) y (comes_to a) k tt
false-settled (divides_by_zero l) y h k = tt
false-settled cannot_be_told y h k = absurd h

pub operated-settled : (o : Operator) (e : Elem) (l : ℕ) (x y : Outcome) → IsSettled x → IsSettled y → IsSettled (operated o e l x y)
operated-settled operator.AndThen e l x y h k = true-settled x y h k
operated-settled operator.OrElse e l x y h k = false-settled x y h k
operated-settled operator.Or e l x y h k = both-settled operator.Or e l x y h k
operated-settled operator.Xor e l x y h k = both-settled operator.Xor e l x y h k
operated-settled operator.And e l x y h k = both-settled operator.And e l x y h k
operated-settled operator.Equal e l x y h k = both-settled operator.Equal e l x y h k
operated-settled operator.Differs e l x y h k = both-settled operator.Differs e l x y h k
operated-settled operator.Less e l x y h k = both-settled operator.Less e l x y h k
operated-settled operator.Greater e l x y h k = both-settled operator.Greater e l x y h k
operated-settled operator.AtMost e l x y h k = both-settled operator.AtMost e l x y h k
operated-settled operator.AtLeast e l x y h k = both-settled operator.AtLeast e l x y h k
operated-settled operator.Plus e l x y h k = both-settled operator.Plus e l x y h k
operated-settled operator.Minus e l x y h k = both-settled operator.Minus e l x y h k
operated-settled operator.Times e l x y h k = both-settled operator.Times e l x y h k
operated-settled operator.Divide e l x y h k = both-settled operator.Divide e l x y h k
operated-settled operator.Modulo e l x y h k = both-settled operator.Modulo e l x y h k

pub mapped-settled : (f : ℤ → ℤ) (x : Outcome) → IsSettled x → IsSettled (outcome_map f x)
mapped-settled f (comes_to a) h = tt
mapped-settled f (divides_by_zero l) h = tt
mapped-settled f cannot_be_told h = absurd h

pub target-settled : (t : Target) → is_told t ≡ true → IsSettled (target_value t)
target-settled (target.Constant z) h = tt
target-settled (target.Enumerator k) h = tt
target-settled _ h = absurd (cc)

-- ---- literals

by-test : (b : Bool) (z : ℤ) → b ≡ true → IsSettled (if b then comes_to z else cannot_be_told)
by-test true z h = tt
by-test false z h = absurd (cc)

abbrev fits_64 : ℤ → Bool
fits_64 z = int_le (neg_ℤ (pos 9223372036854775808)) z && int_le z (pos 18446744073709551615)

pos-fits : (n : ℕ) → nat_lt 18446744073709551615 n ≡ false → fits_64 (pos n) ≡ true
pos-fits n h = grind (arith, common_steps)

le-trans : (a b c : ℤ) → int_le a b ≡ true → int_le b c ≡ true → int_le a c ≡ true
le-trans (pos a) (pos b) (pos c) h k = grind (arith, common_steps)
le-trans (pos a) (pos b) (negsuc c) h k = absurd (cc)
le-trans (pos a) (negsuc b) c h k = absurd (cc)
le-trans (negsuc a) (pos b) (pos c) h k = refl
le-trans (negsuc a) (pos b) (negsuc c) h k = absurd (cc)
le-trans (negsuc a) (negsuc b) (pos c) h k = refl
le-trans (negsuc a) (negsuc b) (negsuc c) h k = grind (arith, common_steps)

low-fits : (e : Elem) → int_le (neg_ℤ (pos 9223372036854775808)) (lowest e) ≡ true
low-fits kind.Bool = refl
low-fits kind.Sint = refl
low-fits kind.Int = refl
low-fits kind.Dint = refl
low-fits kind.Lint = refl
low-fits kind.Usint = refl
low-fits kind.Uint = refl
low-fits kind.Udint = refl
low-fits kind.Ulint = refl
low-fits kind.Byte = refl
low-fits kind.Word = refl
low-fits kind.Dword = refl
low-fits kind.Lword = refl
low-fits kind.Time = refl

high-fits : (e : Elem) → int_le (highest e) (pos 18446744073709551615) ≡ true
high-fits kind.Bool = refl
high-fits kind.Sint = refl
high-fits kind.Int = refl
high-fits kind.Dint = refl
high-fits kind.Lint = refl
high-fits kind.Usint = refl
high-fits kind.Uint = refl
high-fits kind.Udint = refl
high-fits kind.Ulint = refl
high-fits kind.Byte = refl
high-fits kind.Word = refl
high-fits kind.Dword = refl
high-fits kind.Lword = refl
high-fits kind.Time = refl

kind-fits : (e : Elem) (z : ℤ) → holds e z ≡ true → fits_64 z ≡ true
kind-fits e z h =
    let q = both_true (int_le (lowest e) z) (int_le z (highest e)) h in
    let low = neg_ℤ (pos 9223372036854775808) in
    let high = pos 18446744073709551615 in
    and-both (int_le low z) (int_le z high) (le-trans low (lowest e) z (low-fits e) q.0) (le-trans z (highest e) high q.1 (high-fits e))

neg-fits : (t : StType) (n : ℕ) → fits_type (negative_taken t) (neg_ℤ (pos n)) ≡ true → fits_64 (neg_ℤ (pos n)) ≡ true
neg-fits t n h =
    let e = negative_one t in
    kind-fits e.0 (neg_ℤ (pos n)) (sym (ap (λ x. fits_type x (neg_ℤ (pos n))) e.1) ∙ h)
  where
    number-one : (u : StType) → is_elementary is_number u ≡ true → (e : Elem) × (u ≡ type.Elementary e)
    number-one (type.Elementary e) k = (e, refl)
    number-one _ k = absurd (cc)

    negative_one : (u : StType) → (e : Elem) × (negative_taken u ≡ type.Elementary e)
    negative_one u = by (is_elementary is_number u) refl
      where
        by : (b : Bool) → is_elementary is_number u ≡ b → (e : Elem) × ((if b then u else dint) ≡ type.Elementary e)
        by true k = number-one u k
        by false k = (kind.Dint, refl)

pub int-settled : (l : ℕ) (digits : List ℕ) (t : Option StType) → int_faults l digits t ≡ [] → IsSettled (literal_outcome (pos (number_of digits)))
unfolding int_faults
int-settled l digits t f = by-test (fits_64 (pos (number_of digits))) (pos (number_of digits)) (pos-fits (number_of digits) (holds-not _ E13 l (none-of (past_64_bits l (number_of digits)) (number_past_its_type l (pos (number_of digits)) t) f).0))

pub negative-settled : (l : ℕ) (digits : List ℕ) (asked : Asked) → AsksForTold asked → negative_faults l digits (negative_type asked) ≡ [] → IsSettled (literal_outcome (neg_ℤ (pos (number_of digits))))
unfolding negative_faults negative_type
negative-settled l digits Anything h f = by-test (fits_64 (neg_ℤ (pos (number_of digits)))) _ (kind-fits kind.Dint (neg_ℤ (pos (number_of digits))) (passes _ E13 l (none-of (past_64_bits l (number_of digits)) _ f).1))
negative-settled l digits (Wanted t) h f = by-test (fits_64 (neg_ℤ (pos (number_of digits)))) _ (neg-fits t (number_of digits) (passes _ E13 l (none-of (past_64_bits l (number_of digits)) _ f).1))
negative-settled l digits Untold h f = absurd h

pub literal-settled : (l : ℕ) (e : Elem) (x : Literal) → typed_literal_faults l e x ≡ [] → IsSettled (literal_outcome (literal_number x))
unfolding typed_literal_faults
literal-settled l e x f =
    let q = none-of (truth_of_another_kind l e x) (literal_past_its_kind l e x) f in
    by-test (fits_64 (literal_number x)) (literal_number x) (kind-fits e (literal_number x) (by (is_wrong_truth e x) (holds e (literal_number x)) (holds-not _ E07 l q.0) (holds-not _ E13 l q.1)))
  where
    by : (a b : Bool) → a ≡ false → (not a && not b) ≡ false → b ≡ true
    by true b h k = absurd (cc)
    by false true h k = refl
    by false false h k = absurd (cc)

pub time-settled : (l : ℕ) (text : List ℕ) → time_past_32_bits l text ≡ [] → IsSettled (duration_outcome (milliseconds text))
unfolding time_past_32_bits
time-settled l text f = by (milliseconds text) (passes (holds kind.Time (pos (milliseconds text))) E13 l f)
  where
    fits : (n : ℕ) → holds kind.Time (pos n) ≡ true → nat_lt n (2 ^ 32) ≡ true
    fits n h = grind (arith, common_steps)

    by : (n : ℕ) → holds kind.Time (pos n) ≡ true → IsSettled (duration_outcome n)
    by n h = by-test (nat_lt n (2 ^ 32)) (pos n) (fits n h)

-- ---- conversions

third-of : (p w n i : Faults) → p ++ w ++ n ++ i ≡ [] → n ≡ []
third-of p w n i f = (none-of (p ++ w) n (none-of (p ++ w ++ n) i f).0).1

named-faults : (l : ℕ) (a : Elem) (k c : ℕ) (cs : List ℕ) (hs : List Head) → matching_faults l (operand_parameter a ∷ []) (names_input k (c ∷ cs) ∷ hs) ≡ [] → ⊥
named-faults l a k c cs hs f =
    let ps = operand_parameter a ∷ [] in
    let h = names_input k (c ∷ cs) ∷ hs in
    let q = third-of (positional_and_named_mixed l h) (wrong_number_of_positional l ps h) (named_unknown_or_twice ps [] h) (in_out_left_out l ps h) f in
    cc

output-faults : (l : ℕ) (a : Elem) (k : ℕ) (name : List ℕ) (hs : List Head) → matching_faults l (operand_parameter a ∷ []) (names_output k name ∷ hs) ≡ [] → ⊥
output-faults l a k name hs f =
    let ps = operand_parameter a ∷ [] in
    let h = names_output k name ∷ hs in
    let q = third-of (positional_and_named_mixed l h) (wrong_number_of_positional l ps h) (named_unknown_or_twice ps [] h) (in_out_left_out l ps h) f in
    cc

pub first-operand : (s : Scope) (l : ℕ) (on_super : Bool) (a b : Elem) (xs : Arguments ℕ) → HaveNames xs → callee_faults s l on_super (a_conversion a b) (heads xs) ≡ []
    → (e : Expression ℕ) × (ys : Arguments ℕ) × (xs ≡ argument_then (Positional e) ys)
unfolding callee_faults
first-operand s l on_super a b no_arguments n f = absurd (cc)
first-operand s l on_super a b (argument_then (Positional e) xs) n f = (e, xs, refl)
first-operand s l on_super a b (argument_then (Input k [] e) xs) n f = absurd n.0
first-operand s l on_super a b (argument_then (Input k (c ∷ cs) e) xs) n f = absurd (named-faults l a k c cs (heads xs) f)
first-operand s l on_super a b (argument_then (Output k name j r ss) xs) n f = absurd (output-faults l a k name (heads xs) f)
