-- What operators and places give is told where no rule is broken.
use Rattle.std.proofs.Common.{◌≡◌, ℕ, ◌+◌, ◌-◌, Bool, true, false, List, [], ◌∷◌, ◌++◌, Option, Some, None, refl, ap}
use Rattle.std.specs.Prelude.{if◌then◌else◌, ◌||◌, not, option_map}
use Rattle.std.specs.Option.{is_some}
use Rattle.plc_text.specs.declared.code.Code.{Code}
use Rattle.plc_text.specs.declared.code.Code.TheVariants.{E05, E07, E09}
use Rattle.st_types.specs.declared.elem.Elem.{Elem}
use Rattle.st_types.specs.declared.st_type.StType.{StType}
use Rattle.st_types.specs.declared.st_type.StType.TheVariants as type
use Rattle.st_tree.specs.declared.expression.Literal.{Literal}
use Rattle.st_tree.specs.declared.expression.Operator.{Operator}
use Rattle.st_tree.specs.declared.expression.Operator.TheVariants as operator
use Rattle.st_tree.specs.declared.expression.Root.{Root}
use Rattle.st_tree.specs.declared.expression.Root.TheVariants as root
use Rattle.st_tree.specs.Expression.{Field, Selectors, no_selectors, selector_then}
use Rattle.st_rules.specs.declared.asked.Asked.{Asked}
use Rattle.st_rules.specs.declared.asked.Asked.TheVariants.{Anything, Wanted, Untold}
use Rattle.st_rules.specs.Faults.{Faults, at, when}
use Rattle.st_rules.specs.Kinds.{gives_bool, operand_kind, compares_equal, suits_operator, arithmetic_type, operation_type, unary_type, is_elementary, is_number, boolean}
use Rattle.st_rules.specs.Literals.{asked_of, number_asked, int_type, negative_type, is_wrong_truth, typed_literal_type, typed_literal_faults, literal_past_its_kind}
use Rattle.st_rules.specs.Scope.{Scope, Meant, a_variable, a_function, an_enumerator, Qualifier, values_of, of_untold, no_qualifier, sought, dot_qualifier, value_of}
use Rattle.st_rules.specs.Scope as scope
use Rattle.st_rules.specs.Places.{a_value_of, part_type, root_standing, placed, selected, standing_of, meant_type, qualified_standing, part_of, place_type, standing_type}
use Rattle.st_rules.specs.Calls.{a_conversion, callee, name_callee, conversion_named, Head, unnamed, first_match, first_matched, asked_by, call_matches, call_type, callee_faults, callee_parameters, has_right_number, given_from, matching_faults, positional_and_named_mixed, wrong_number_of_positional, named_unknown_or_twice, in_out_left_out}
use Rattle.st_rules.specs.Expressions.{operands_unsuited, operand_unsuited, operand_asked, front_asked, enumerator_type, value_type, note_of_value, enumerator_target, whole_target, qualified_target, part_target, value_target, is_conversion}
use Rattle.st_unit_rules.specs.declared_names.Constants.{is_told}

-- the value of a constant is told only with its type
abbrev pub HasItsType : Option Meant → Type 0
HasItsType (Some (a_variable c v)) = v.constant ≡ true → is_told v.target ≡ true → is_some v.kind ≡ true
HasItsType _ = Unit {0}

pub record ValuesHaveTypes (s : Scope) : Type 0 where
  pub each : (name : List ℕ) → HasItsType (sought s false name)

-- what is asked for is told, where anything is
abbrev pub AsksForTold : Asked → Type 0
AsksForTold Untold = ⊥
AsksForTold _ = Unit {0}

-- ---- nothing broken

pub none-of : (fs gs : Faults) → fs ++ gs ≡ [] → (fs ≡ []) × (gs ≡ [])
none-of [] gs h = (refl, h)
none-of (f ∷ fs) gs h = absurd (cc)

pub holds-not : (b : Bool) (c : Code) (l : ℕ) → when b c l ≡ [] → b ≡ false
holds-not true c l h = absurd (cc)
holds-not false c l h = refl

not-not : (b : Bool) → not b ≡ false → b ≡ true
not-not true h = refl
not-not false h = absurd (cc)

pub passes : (b : Bool) (c : Code) (l : ℕ) → when (not b) c l ≡ [] → b ≡ true
passes b c l h = not-not b (holds-not (not b) c l h)

-- ---- what is asked for

pub asks-number : (asked : Asked) → AsksForTold asked → AsksForTold (number_asked asked)
unfolding number_asked
asks-number Anything h = tt
asks-number (Wanted t) h = at (is_elementary is_number t)
  where
    at : (b : Bool) → AsksForTold (if b then Wanted t else Anything)
    at true = tt
    at false = tt
asks-number Untold h = absurd h

pub asks-of : (o : Option StType) → is_some o ≡ true → AsksForTold (asked_of o)
unfolding asked_of
asks-of None h = absurd (cc)
asks-of (Some t) h = tt

pub asks-front : (b : Bool) (asked : Asked) → AsksForTold asked → AsksForTold (front_asked b asked)
unfolding front_asked
asks-front true asked h = h
asks-front false asked h = tt

pub asks-operand : (u b : Bool) (asked : Asked) (t : Option StType) → AsksForTold asked → is_some t ≡ true → AsksForTold (operand_asked u b asked t)
unfolding operand_asked
asks-operand true true asked t h k = h
asks-operand false true asked t h k = asks-of t k
asks-operand u false asked t h k = tt

pub asks-anything : (u : Bool) (asked : Asked) (t : Option StType) → operand_asked u false asked t ≡ Anything
unfolding operand_asked
asks-anything u asked t = refl

-- ---- literals

pub int-told : (asked : Asked) (digits : List ℕ) → AsksForTold asked → is_some (int_type asked digits) ≡ true
unfolding int_type
int-told Anything digits h = refl
int-told (Wanted t) digits h = refl
int-told Untold digits h = absurd h

pub negative-told : (asked : Asked) → AsksForTold asked → is_some (negative_type asked) ≡ true
unfolding negative_type
negative-told Anything h = refl
negative-told (Wanted t) h = refl
negative-told Untold h = absurd h

pub literal-told : (l : ℕ) (e : Elem) (x : Literal) → typed_literal_faults l e x ≡ [] → is_some (typed_literal_type e x) ≡ true
unfolding typed_literal_faults typed_literal_type
literal-told l e x h = at (is_wrong_truth e x) (holds-not (is_wrong_truth e x) E07 l ((none-of (when (is_wrong_truth e x) E07 l) (literal_past_its_kind l e x) h).0))
  where
    at : (b : Bool) → b ≡ false → is_some (if b then None else Some (type.Elementary e)) ≡ true
    at true k = absurd (cc)
    at false k = refl

-- ---- operators

plain : (o : Operator) (t u : StType) → gives_bool o ≡ false → compares_equal o t u ≡ false
plain operator.Equal t u h = absurd (cc)
plain operator.Differs t u h = absurd (cc)
plain o t u h = refl

taken : (o : Option Elem) → is_some o ≡ true → is_some (option_map type.Elementary o) ≡ true
taken None h = absurd (cc)
taken (Some e) h = refl

first-of : (a b : Bool) → (a || b) ≡ true → b ≡ false → a ≡ true
first-of true b h k = refl
first-of false true h k = absurd (cc)
first-of false false h k = absurd (cc)

suited : (o : Operator) (t u : StType) → suits_operator o t u ≡ true → (b : Bool) → gives_bool o ≡ b → is_some (if b then Some boolean else arithmetic_type o (Some t) (Some u)) ≡ true
suited o t u h true e = refl
suited o t u h false e = taken (operand_kind o t u) (first-of (is_some (operand_kind o t u)) (compares_equal o t u) h (plain o t u e))

pub operation-told : (l : ℕ) (o : Operator) (t u : Option StType) → is_some t ≡ true → is_some u ≡ true → operands_unsuited l o t u ≡ [] → is_some (operation_type o t u) ≡ true
unfolding operands_unsuited operation_type
operation-told l o None u h k f = absurd (cc)
operation-told l o (Some t) None h k f = absurd (cc)
operation-told l o (Some t) (Some u) h k f = suited o t u (passes (suits_operator o t u) E07 l f) (gives_bool o) refl

pub unary-told : (l : ℕ) (takes : Elem → Bool) (t : Option StType) → is_some t ≡ true → operand_unsuited l takes t ≡ [] → is_some (unary_type takes t) ≡ true
unfolding operand_unsuited unary_type
unary-told l takes None h f = absurd (cc)
unary-told l takes (Some t) h f = at (is_elementary takes t) (passes (is_elementary takes t) E07 l f)
  where
    at : (b : Bool) → b ≡ true → is_some (if b then Some t else None) ≡ true
    at true k = refl
    at false k = absurd (cc)

-- ---- places

module _ (s : Scope) where
  standing-told : (o : Option StType) → is_some o ≡ true → is_some (standing_type (standing_of o)) ≡ true
  standing-told None h = absurd (cc)
  standing-told (Some t) h = refl

  chosen : (b : Bool) (t u : _) → is_told (if b then t else u) ≡ true → is_told u ≡ false → (b ≡ true) × (is_told t ≡ true)
  chosen true t u h k = (refl, h)
  chosen false t u h k = absurd (cc)

  meant-told : (m : Option Meant) → HasItsType m → is_told (value_target m) ≡ true → is_some (meant_type m) ≡ true
  meant-told None w h = absurd (cc)
  meant-told (Some (a_variable c v)) w h = let p = chosen v.constant v.target _ h refl in w p.0 p.1
  meant-told (Some (scope.a_method id)) w h = absurd (cc)
  meant-told (Some (a_function k r)) w h = absurd (cc)
  meant-told (Some (an_enumerator n k)) w h = refl

  value-told : (q : ℕ) (o : Option ℕ) → is_told (part_target (option_map (a_value_of q) o)) ≡ true → is_some (standing_type (standing_of (part_type (option_map (a_value_of q) o)))) ≡ true
  value-told q None h = absurd (cc)
  value-told q (Some k) h = refl

  no-value : (t : Option StType) (n : List ℕ) → is_told (qualified_target s (standing_of t) n) ≡ true → ⊥
  no-value None n h = cc
  no-value (Some t) n h = cc

  qualified-told : (q : Qualifier) (name n : List ℕ) → is_told (qualified_target s (qualified_standing s q name) n) ≡ true → is_some (standing_type (standing_of (part_type (part_of s (qualified_standing s q name) false n)))) ≡ true
  unfolding part_of
  qualified-told (values_of k) name n h = value-told k (value_of s k n) h
  qualified-told of_untold name n h = absurd (cc)
  qualified-told no_qualifier name n h = absurd (no-value (meant_type (sought s false name)) n h)

  pub place-told : ValuesHaveTypes s → (r : Root ℕ) (ss : Selectors ℕ) → is_told (whole_target s r ss) ≡ true → is_some (place_type s r ss) ≡ true
  unfolding whole_target root_standing placed selected
  place-told w (root.Name l name) no_selectors h = standing-told (meant_type (sought s false name)) (meant-told (sought s false name) (w.each name) h)
  place-told w (root.Name l name) (selector_then (Field j n) no_selectors) h = qualified-told (dot_qualifier s name) name n h
  place-told w r ss h = absurd (cc)

  -- ---- enumerators behind `#`

  worth-told : (n : ℕ) (o : Option ℕ) → is_told (enumerator_target s o) ≡ true → is_some (value_type s n o) ≡ true
  worth-told n None h = absurd (cc)
  worth-told n (Some k) h = refl

  pub enumerator-told : (q : Qualifier) (name : List ℕ) → is_told (note_of_value s q name) ≡ true → is_some (enumerator_type s q name) ≡ true
  unfolding note_of_value enumerator_type
  enumerator-told (values_of k) name h = worth-told k (value_of s k name) h
  enumerator-told of_untold name h = absurd (cc)
  enumerator-told no_qualifier name h = absurd (cc)

  -- ---- conversions

  no-conversion : (l : ℕ) (b : Bool) (fs : Faults) → (if b then fs else at E05 l) ≡ [] → (b ≡ true) × (fs ≡ [])
  no-conversion l true fs h = (refl, h)
  no-conversion l false fs h = absurd (cc)

  converts : (name : List ℕ) (o : Option (Elem × Elem)) → conversion_named name ≡ o → is_some o ≡ true → (c : Elem × Elem) × (conversion_named name ≡ Some c)
  converts name None e h = absurd (cc)
  converts name (Some c) e h = (c, e)

  -- what is called where no part is no constant
  pub conversion-called : (l : ℕ) (r : Root ℕ) (ss : Selectors ℕ) (fs : Faults) → (if is_conversion s r ss then fs else at E05 l) ≡ [] → (c : Elem × Elem) × (callee s r ss ≡ a_conversion c.0 c.1) × (fs ≡ [])
  unfolding callee
  conversion-called l (root.Name k name) no_selectors fs h =
      let p = no-conversion l (is_some (conversion_named name)) fs h in
      let c = converts name (conversion_named name) refl p.0 in
      (c.0, ap (λ x. name_callee s x (sought s true name)) c.1, p.1)
  conversion-called l r ss fs h = absurd (cc)

  pub conversion-type : (a b : Elem) → is_some (call_type (a_conversion a b)) ≡ true
  unfolding call_type
  conversion-type a b = refl

  matching : (l : ℕ) (ps : _) (hs : List Head) → matching_faults l ps (unnamed ∷ hs) ≡ [] → has_right_number ps (unnamed ∷ hs) ≡ true
  matching l ps hs h =
      let p = positional_and_named_mixed l (unnamed ∷ hs) in
      let w = wrong_number_of_positional l ps (unnamed ∷ hs) in
      let n = named_unknown_or_twice ps [] (unnamed ∷ hs) in
      passes (has_right_number ps (unnamed ∷ hs)) E09 l (none-of p w (none-of (p ++ w) n (none-of (p ++ w ++ n) (in_out_left_out l ps (unnamed ∷ hs)) h).0).0).1

  right-number : (l : ℕ) (on_super : Bool) (a b : Elem) (hs : List Head) → callee_faults s l on_super (a_conversion a b) (unnamed ∷ hs) ≡ [] → has_right_number (callee_parameters s (a_conversion a b)) (unnamed ∷ hs) ≡ true
  unfolding callee_faults
  right-number l on_super a b hs h = matching l (callee_parameters s (a_conversion a b)) hs h

  -- the operand of a conversion is asked for the kind that the conversion takes
  pub operand-asked : (l : ℕ) (on_super : Bool) (a b : Elem) (hs : List Head) → callee_faults s l on_super (a_conversion a b) (unnamed ∷ hs) ≡ [] → asked_by (first_match (call_matches s (a_conversion a b) (unnamed ∷ hs))) ≡ Wanted (type.Elementary a)
  unfolding call_matches asked_by asked_of
  operand-asked l on_super a b hs h =
      ap (λ t. asked_by (first_matched (if t then given_from 0 (callee_parameters s (a_conversion a b)) else []))) (right-number l on_super a b hs h)
