-- Literals fit the types that they take.
use Rattle.std.proofs.Common.{◌≡◌, ℕ, ℤ, Bool, true, false, List, [], Option, Some, None, refl, sym, ap, subst}
use Rattle.std.specs.Prelude.{◌||◌, ◌&&◌, not, pos, neg_ℤ, int_le, ◌≤ℤ◌, nat_le, if◌then◌else◌, T}
use Rattle.std.specs.Int.Signed.{le_z_yes}
use Rattle.plc_text.specs.declared.code.Code.TheVariants.{E13, E07}
use Rattle.st_types.specs.declared.elem.Elem.{Elem}
use Rattle.st_types.specs.declared.elem.Elem.TheVariants as elem
use Rattle.st_types.specs.Range.{lowest, highest, Fits}
use Rattle.st_types.specs.declared.st_type.StType.{StType}
use Rattle.st_types.specs.declared.st_type.StType.TheVariants as type
use Rattle.st_tree.specs.declared.expression.Literal.{Literal}
use Rattle.st_tree.specs.declared.expression.Literal.TheVariants as literal
use Rattle.st_tree.specs.Duration.{milliseconds}
use Rattle.st_tree.specs.Number.{number_of}
use Rattle.st_rules.proofs.Booleans.{both}
use Rattle.st_rules.specs.declared.asked.Asked.{Asked}
use Rattle.st_rules.specs.declared.asked.Asked.TheVariants.{Anything, Wanted, Untold}
use Rattle.st_rules.specs.Kinds.{is_elementary, is_bool, is_number, dint}
use Rattle.st_rules.specs.Literals.{int_taken, int_type, negative_taken, negative_type, holds, fits_type, past_64_bits, number_past_its_type, int_faults, negative_faults, is_wrong_truth, literal_number, typed_literal_type, truth_of_another_kind, literal_past_its_kind, typed_literal_faults, time_past_32_bits, null_taken, null_type}
use Rattle.st_meaning.specs.Operation.{literal_value}
use Rattle.st_meaning.specs.st_frame.Promise.Types.{IsElementary, IsHeld}
use Rattle.place_laws.proofs.Words.{none_in, passes, not_when}
use Rattle.place_laws.proofs.Operators.{elementary_one}

-- what is asked for is told
abbrev pub AsksForTold : Asked → Type 0
AsksForTold Untold = ⊥
AsksForTold _ = Unit {0}

below_true : (a b : ℤ) → int_le a b ≡ true → a ≤ℤ b
below_true a b e = le_z_yes (subst T (sym e) tt)

pub fits_of : (e : Elem) (v : ℤ) → holds e v ≡ true → Fits e v
fits_of e v h = let q = both (int_le (lowest e) v) (int_le v (highest e)) h in (below_true _ _ q.0, below_true _ _ q.1)

-- a literal with its type
abbrev pub LiteralIs : Option StType → ℤ → Type 0
LiteralIs o v = (t : StType) × (e : Elem) × (o ≡ Some t) × (t ≡ type.Elementary e) × Fits e v

taken_one : (t : StType) (n : ℕ) → IsElementary (int_taken t n)
taken_one t n = by (is_elementary is_number t) (is_elementary is_bool t && nat_le n 1) refl refl
  where
    first : (a b : Bool) → (a && b) ≡ true → a ≡ true
    first true b h = refl
    first false b h = cc

    by : (a b : Bool) → is_elementary is_number t ≡ a → (is_elementary is_bool t && nat_le n 1) ≡ b → IsElementary (if a || b then t else dint)
    by true b h k = elementary_one is_number t h
    by false true h k = elementary_one is_bool t (first (is_elementary is_bool t) (nat_le n 1) k)
    by false false h k = (elem.Dint, refl)

negative_one : (t : StType) → IsElementary (negative_taken t)
negative_one t = by (is_elementary is_number t) refl
  where
    by : (a : Bool) → is_elementary is_number t ≡ a → IsElementary (if a then t else dint)
    by true h = elementary_one is_number t h
    by false h = (elem.Dint, refl)

fitting : (l : ℕ) (v : ℤ) (t : StType) → IsElementary t → number_past_its_type l v (Some t) ≡ [] → LiteralIs (Some t) v
fitting l v t e h =
    let k : holds e.0 v ≡ true = subst (λ x. fits_type x v ≡ true) e.1 (passes (fits_type t v) E13 l h) in
    (t, e.0, refl, e.1, fits_of e.0 v k)

pub int_is : (l : ℕ) (asked : Asked) (digits : List ℕ) → AsksForTold asked → int_faults l digits (int_type asked digits) ≡ [] → LiteralIs (int_type asked digits) (pos (number_of digits))
unfolding int_faults int_type
int_is l Anything digits a h = fitting l _ dint (elem.Dint, refl) ((none_in (past_64_bits l (number_of digits)) _ h).1)
int_is l (Wanted t) digits a h = fitting l _ (int_taken t (number_of digits)) (taken_one t (number_of digits)) ((none_in (past_64_bits l (number_of digits)) _ h).1)
int_is l Untold digits a h = absurd a

pub negative_is : (l : ℕ) (asked : Asked) (digits : List ℕ) → AsksForTold asked → negative_faults l digits (negative_type asked) ≡ [] → LiteralIs (negative_type asked) (neg_ℤ (pos (number_of digits)))
unfolding negative_faults negative_type
negative_is l Anything digits a h = fitting l _ dint (elem.Dint, refl) ((none_in (past_64_bits l (number_of digits)) _ h).1)
negative_is l (Wanted t) digits a h = fitting l _ (negative_taken t) (negative_one t) ((none_in (past_64_bits l (number_of digits)) _ h).1)
negative_is l Untold digits a h = absurd a

same_literal : (x : Literal) → literal_number x ≡ literal_value x
same_literal (literal.Int digits) = refl
same_literal (literal.Negative digits) = refl
same_literal literal.True = refl
same_literal literal.False = refl

pub typed_is : (l : ℕ) (k : Elem) (x : Literal) → typed_literal_faults l k x ≡ [] → (typed_literal_type k x ≡ Some (type.Elementary k)) × Fits k (literal_value x)
unfolding typed_literal_faults typed_literal_type
typed_is l k x h =
    let q = none_in (truth_of_another_kind l k x) (literal_past_its_kind l k x) h in
    let w = not_when (is_wrong_truth k x) E07 l q.0 in
    (ap (λ b. if b then None else Some (type.Elementary k)) w, subst (Fits k) (same_literal x) (fits_of k (literal_number x) (by (is_wrong_truth k x) (holds k (literal_number x)) w (not_when _ E13 l q.1))))
  where
    by : (a b : Bool) → a ≡ false → (not a && not b) ≡ false → b ≡ true
    by true b e f = cc
    by false true e f = refl
    by false false e f = cc

pub time_is : (l : ℕ) (text : List ℕ) → time_past_32_bits l text ≡ [] → Fits elem.Time (pos (milliseconds text))
unfolding time_past_32_bits
time_is l text h = fits_of elem.Time _ (passes (holds elem.Time (pos (milliseconds text))) E13 l h)

taken_held : (t : StType) → IsHeld (null_taken t)
taken_held (type.Reference c) = tt
taken_held (type.Interface i) = tt
taken_held _ = tt

pub null_held : (asked : Asked) → IsHeld (null_type asked)
unfolding null_type
null_held Anything = tt
null_held (Wanted t) = taken_held t
null_held Untold = tt
