-- Expressions: the induction.
use Rattle.std.proofs.Common.{◌≡◌, ℕ, suc, ◌≤◌, Bool, true, false, List, [], ◌∷◌, ◌++◌, length, Option, Some, None, refl, sym, ap, ◌∙◌, subst, inl, inr, arith}
use Rattle.std.specs.Prelude.{◌||◌, ◌&&◌, if◌then◌else◌, slice_get, option_and_then}
use Rattle.std.specs.Option.{is_none}
use Rattle.plc_text.specs.declared.code.Code.TheVariants.{E05, E07, E08, E09}
use Rattle.st_types.specs.declared.elem.Elem.{Elem}
use Rattle.st_types.specs.declared.st_type.StType.{StType}
use Rattle.st_types.specs.declared.st_type.StType.TheVariants as type
use Rattle.st_tree.specs.declared.expression.Operator.{Operator}
use Rattle.st_tree.specs.declared.expression.Root.{Root}
use Rattle.st_tree.specs.declared.expression.Root.TheVariants as root
use Rattle.st_tree.specs.declared.program.Note.{Note}
use Rattle.st_tree.specs.declared.program.Target.TheVariants as target
use Rattle.st_tree.specs.Expression.{Expression, Int, Typed, Time, True, False, Null, Place, Call, Enumerator, Ref, Now, Paren, Not, Negate, Chain, Expressions, no_expressions, expression_then, Selector, Field, Index, Selectors, no_selectors, selector_then, Positional, Input, Output, Arguments, no_arguments, argument_then, Tails, no_tails, tail_then}
use Rattle.st_tree.specs.Expression as tree
use Rattle.st_rules.specs.declared.asked.Asked.{Asked}
use Rattle.st_rules.specs.declared.asked.Asked.TheVariants.{Anything}
use Rattle.st_rules.specs.declared.names.DeclaredVariable.{DeclaredVariable}
use Rattle.st_rules.specs.Faults.{when}
use Rattle.st_rules.specs.Kinds.{is_arithmetic, operation_type, takes_not, takes_minus, unary_type, boolean, time}
use Rattle.st_rules.specs.Literals.{asked_of, number_asked}
use Rattle.st_rules.specs.Scope.{Scope, Qualifier, values_of, of_untold, no_qualifier, type_qualifier, value_of}
use Rattle.st_rules.specs.Places.{Standing, root_line, root_standing, root_faults, selector_faults, selected, whole_faults, place_type, indices_on_no_array, count_expressions, is_last, target_faults, too_many_selectors, fixed_target, instance_as_target, is_fixed}
use Rattle.st_rules.specs.Calls.{callee_along, callee, callee_faults, call_type, call_without_result, is_on_super, heads, Head, Matched, matched, call_matches, asked_by, matched_type, is_given, is_taken, parameter_from, count_unnamed, named_unknown_or_twice, unknown_or_repeated, names_among, head_names, output_unsuited}
use Rattle.st_rules.specs.Expressions.{told, typed, typed_row, typed_root, typed_along, typed_selector, typed_arguments, note, type_of, row_type, asked_behind, faults, row_faults, along_faults, index_faults, index_unsuited, line_of, is_int, is_untyped, front_asked, operand_asked, operand_unsuited, row_unsuited, reference_to, reference_to_no_instance, enumerator_type, enumerator_target, value_type, note_of_value, enumerator_not_found, called_root_faults, argument_faults, given_unsuited, matched_target, whole_target}
use Rattle.st_values.specs.Program.{Parameter, Routine, Program}
use Rattle.st_meaning.specs.Place.{root_note}
use Rattle.st_meaning.specs.Call.{callee_of, next_parameter, behind_next, parameter_named}
use Rattle.st_meaning.specs.st_frame.Use.{last_kind, called_of}
use Rattle.st_meaning.specs.st_frame.Promise.Types.{IsElementary, IsHeld, NumberIs}
use Rattle.st_meaning.specs.st_frame.Promise.Names.{Scope as Around, RootIs}
use Rattle.st_meaning.specs.st_frame.Promise.Places.{NamedIs}
use Rattle.st_meaning.specs.st_frame.Promise.Operators.{NegatedIs}
use Rattle.st_meaning.specs.st_frame.Promise.Calls.{kind, ConversionIs, CallIs, CallResultIs}
use Rattle.st_meaning.specs.st_frame.Promise.Expressions.{AlongIs, ExpressionIs, TailsAre, ArgumentsBy, CalledAlong, OperandIs}
use Rattle.place_laws.specs.Agrees.{Agrees, IsPlain, FillsBy, GivesBy, LeavesBy, TakesBy}
use Rattle.accepted_texts.specs.formed_units.Formed.{Formed, FormedTails, FormedEach, FormedAlong, FormedArguments}
use Rattle.place_laws.proofs.Words.{none_in, not_when, three, four, six}
use Rattle.place_laws.proofs.Notes.{kind_told}
use Rattle.place_laws.proofs.Operators.{elementary_one, unary_same, unary_taken}
use Rattle.place_laws.proofs.Literals.{AsksForTold, int_is, negative_is, typed_is, time_is, null_held}
use Rattle.place_laws.proofs.Places.{StandsAs, told_as}
use Rattle.place_laws.proofs.Heart
use Rattle.place_laws.proofs.Whole
use Rattle.place_laws.proofs.Params
use Rattle.call_laws.proofs.Called
use Rattle.call_laws.proofs.Operands
use Rattle.call_laws.proofs.Behind
use Rattle.call_laws.proofs.Joined
use Rattle.call_laws.proofs.Callees
use Rattle.call_laws.proofs.Supers

module _ (s : Scope) (p : Program) (g : Around) (a : Agrees s p g) where
  abbrev Right : Asked → Expression ℕ → Type 0
  Right asked e = Heart.Right s p g a asked e

  -- ---- leaves

  int_right : (asked : Asked) (l : ℕ) (digits : List ℕ) → AsksForTold asked → faults s asked (Int l digits) ≡ [] → Right asked (Int l digits)
  int_right asked l digits q f = let i = int_is l asked digits q f in record { kind = i.0; told = i.2; is = (i.1, told_as _ i.0 i.2 ∙ i.3, i.4) }

  negative_right : (asked : Asked) (l k : ℕ) (digits : List ℕ) → AsksForTold asked → faults s asked (Negate l (Int k digits)) ≡ [] → Right asked (Negate l (Int k digits))
  negative_right asked l k digits q f = let i = negative_is l asked digits q f in record { kind = i.0; told = i.2; is = (i.1, told_as _ i.0 i.2 ∙ i.3, told_as _ i.0 i.2 ∙ i.3, i.4) }

  enumerator_by : (l k : ℕ) (t name : List ℕ) (q : Qualifier) → type_qualifier s t ≡ q → enumerator_not_found s l k q name ≡ [] → (u : StType) × (enumerator_type s q name ≡ Some u) × NumberIs p u (Rattle.st_values.specs.Initial.constant (note_of_value s q name))
  unfolding enumerator_not_found enumerator_type note_of_value
  enumerator_by l k t name (values_of n) e f = by (value_of s n name) refl f
    where
      by : (o : Option ℕ) → value_of s n name ≡ o → when (is_none o) E05 k ≡ [] → (u : StType) × (value_type s n o ≡ Some u) × NumberIs p u (Rattle.st_values.specs.Initial.constant (enumerator_target s o))
      by None q h = cc
      by (Some j) q h = (type.Enumeration n, refl, a.value n name j q)
  enumerator_by l k t name of_untold e f = absurd (a.hash t e)
  enumerator_by l k t name no_qualifier e f = cc

  enumerator_right : (asked : Asked) (l k : ℕ) (t name : List ℕ) → faults s asked (Enumerator l t k name) ≡ [] → Right asked (Enumerator l t k name)
  enumerator_right asked l k t name f =
      let q = enumerator_by l k t name (type_qualifier s t) refl f in
      record { kind = q.0; told = q.1; is = subst (λ u. NumberIs p u (Rattle.st_values.specs.Initial.constant (note_of_value s (type_qualifier s t) name))) (sym (told_as _ q.0 q.1)) q.2 }

  -- ---- places

  abbrev HasPlaceHere : ℕ → Root ℕ → Selectors ℕ → Type 0
  HasPlaceHere l r ss =
      RootIs p g (typed_root s false r ss) × AlongIs p g (typed_along s false (root_standing s r ss) ss) (root_note (typed_root s false r ss)).kind
      × (last_kind (root_note (typed_root s false r ss)).kind (typed_along s false (root_standing s r ss) ss) ≡ told (place_type s r ss))

  place_right : (asked : Asked) (l : ℕ) (r : Root ℕ) (ss : Selectors ℕ) → Whole.PlaceOf s p g a r ss → Right asked (Place l r ss)
  place_right asked l r ss q =
      let k = told_as (place_type s r ss) q.kind q.told in
      record {
        kind = q.kind;
        told = q.told;
        is = elim q.is [
          | inl w ↦ let h : HasPlaceHere l r ss = (w.root, w.along, w.last ∙ sym k) in subst (λ x. NamedIs p x (told (place_type s r ss)) (HasPlaceHere l r ss)) (sym w.none) h
          | inr w ↦ Whole.named_any p (whole_target s r ss) (told (place_type s r ss)) _ (subst (λ t. NamedIs p (whole_target s r ss) t ⊥) (sym k) w.number)
        ];
      }

  instance_referred : (l : ℕ) (t : StType) → reference_to_no_instance l (Some t) ≡ [] → (c : ℕ) × (t ≡ type.Instance c)
  unfolding reference_to_no_instance
  instance_referred l t f = by t (not_when (is_none (reference_to t)) E07 l f)
    where
      by : (u : StType) → is_none (reference_to u) ≡ false → (c : ℕ) × (u ≡ type.Instance c)
      by (type.Instance c) h = (c, refl)
      by _ h = cc

  plain_instance : (t : StType) (c : ℕ) → IsPlain t → t ≡ type.Instance c → ⊥
  plain_instance t c h e = subst IsPlain e h

  ref_right : (asked : Asked) (l : ℕ) (r : Root ℕ) (ss : Selectors ℕ) → Whole.PlaceOf s p g a r ss → reference_to_no_instance (root_line r) (place_type s r ss) ≡ [] → Right asked (Ref l r ss)
  ref_right asked l r ss q f =
      let i = instance_referred (root_line r) q.kind (sym (ap (reference_to_no_instance (root_line r)) q.told) ∙ f) in
      let t : option_and_then reference_to (place_type s r ss) ≡ Some (type.Reference i.0) = ap (option_and_then reference_to) q.told ∙ ap reference_to i.1 in
      record {
        kind = type.Reference i.0;
        told = t;
        is = elim q.is [
          | inl w ↦ (w.root, w.along, (i.0, w.last ∙ i.1, told_as _ _ t))
          | inr w ↦ absurd (plain_instance q.kind i.0 w.plain i.1)
        ];
      }

  -- ---- operators

  unary_right : (takes : Elem → Bool) (l : ℕ) (asked : Asked) (e : Expression ℕ) (r : Right asked e) → operand_unsuited l takes (type_of s asked e) ≡ [] → (unary_type takes (type_of s asked e) ≡ Some r.kind) × (kind (typed s asked e) ≡ told (unary_type takes (type_of s asked e))) × IsElementary (told (unary_type takes (type_of s asked e)))
  unary_right takes l asked e r f =
      let h = unary_taken l takes r.kind (sym (ap (operand_unsuited l takes) r.told) ∙ f) in
      let u : unary_type takes (type_of s asked e) ≡ Some r.kind = ap (unary_type takes) r.told ∙ unary_same takes r.kind h in
      let k = told_as _ r.kind u in
      (u, Heart.noted_kind s p g a asked e r.kind r.told ∙ sym k, subst IsElementary (sym k) (elementary_one takes r.kind h))

  abbrev Negated : ℕ → Asked → Expression ℕ → Type 0
  Negated l inner e = ExpressionIs p g (typed s inner e) × (kind (typed s inner e) ≡ told (unary_type takes_minus (type_of s inner e))) × IsElementary (told (unary_type takes_minus (type_of s inner e)))

  negated : (b : Note) (asked : Asked) (e : Expression ℕ) (X : Type 0) → is_int e ≡ false → X → NegatedIs b (typed s asked e) X
  negated b asked (Int l digits) X h x = cc
  negated b asked (Negate l (Int k digits)) X h x = x
  negated b asked (Negate l e) X h x = x
  negated b asked _ X h x = x

  -- ---- arguments

  abbrev Given : Expression ℕ → Type 0
  Given e = (asked : Asked) → AsksForTold asked → faults s asked e ≡ [] → Right asked e

  asks_by : (w : Option Routine) (m : ℕ × DeclaredVariable) (q : Parameter) → FillsBy p w m.1 q → AsksForTold (asked_by (Some m))
  unfolding asked_by
  asks_by w m q f = let d = Params.declares_of p w m.1 q f in Heart.asks_of m.1.kind d.kind d.told

  matched_number : (l : ℕ) (m : ℕ × DeclaredVariable) (qs : List Parameter) → parameter_named qs (note l (matched_type (Some m)) (matched_target (Some m))) ≡ slice_get qs m.0
  unfolding matched_target
  matched_number l m qs = refl

  abbrev Written : Option Routine → List Parameter → List Parameter → List Matched → Arguments ℕ → Type 0
  Written w qs lq ms xs = ArgumentsBy p g (GivesBy p w) (LeavesBy p w) qs lq (typed_arguments s ms xs)

  positional_case : (x : Option Routine) (qs lq : List Parameter) (m : ℕ × DeclaredVariable) (ms : List Matched) (e : Expression ℕ) (xs : Arguments ℕ) (q : Parameter) → next_parameter lq ≡ Some q → FillsBy p x m.1 q → is_given m.1 ≡ true → Given e
      → argument_faults s (Some m ∷ ms) (argument_then (Positional e) xs) ≡ [] → (argument_faults s ms xs ≡ [] → Written x qs (behind_next lq) ms xs) → Written x qs lq (Some m ∷ ms) (argument_then (Positional e) xs)
  positional_case x qs lq m ms e xs q n fl k given f rest =
      let fs = three (faults s (asked_by (Some m)) e) (given_unsuited s (Some m) e (type_of s (asked_by (Some m)) e)) (argument_faults s ms xs) f in
      let r = given (asked_by (Some m)) (asks_by x m q fl) fs.0 in
      (r.is, subst (λ o. GivesBy p x o (typed s (asked_by (Some m)) e)) (sym n) (Params.gives s p g a x m q fl k e (Whole.free s p g a) r fs.1), rest fs.2)

  input_case : (x : Option Routine) (qs lq : List Parameter) (m : ℕ × DeclaredVariable) (ms : List Matched) (l : ℕ) (name : List ℕ) (e : Expression ℕ) (xs : Arguments ℕ) (q : Parameter) → slice_get qs m.0 ≡ Some q → FillsBy p x m.1 q → is_given m.1 ≡ true → Given e
      → argument_faults s (Some m ∷ ms) (argument_then (Input l name e) xs) ≡ [] → (argument_faults s ms xs ≡ [] → Written x qs lq ms xs) → Written x qs lq (Some m ∷ ms) (argument_then (Input l name e) xs)
  input_case x qs lq m ms l name e xs q n fl k given f rest =
      let fs = three (faults s (asked_by (Some m)) e) (given_unsuited s (Some m) e (type_of s (asked_by (Some m)) e)) (argument_faults s ms xs) f in
      let r = given (asked_by (Some m)) (asks_by x m q fl) fs.0 in
      (r.is, subst (λ o. GivesBy p x o (typed s (asked_by (Some m)) e)) (sym (matched_number l m qs ∙ n)) (Params.gives s p g a x m q fl k e (Whole.free s p g a) r fs.1), rest fs.2)

  pub not_fixed : (l : ℕ) (r : Root ℕ) (ss : Selectors ℕ) → target_faults s r ss ≡ [] → is_fixed s r ss ≡ false
  unfolding target_faults
  not_fixed l r ss f = not_when (is_fixed s r ss) E08 (root_line r) ((none_in (fixed_target s (root_line r) r ss) (instance_as_target s (root_line r) r ss) f).0)

  output_case : (x : Option Routine) (qs lq : List Parameter) (m : ℕ × DeclaredVariable) (ms : List Matched) (l k : ℕ) (name : List ℕ) (r : Root ℕ) (ss : Selectors ℕ) (xs : Arguments ℕ) (q : Parameter) → slice_get qs m.0 ≡ Some q → FillsBy p x m.1 q → is_taken m.1 ≡ true
      → (root_faults s false r ss ≡ [] → along_faults s (root_line r) false (root_standing s r ss) ss ≡ [] → whole_faults s r ss ≡ [] → Whole.PlaceOf s p g a r ss)
      → argument_faults s (Some m ∷ ms) (argument_then (Output l name k r ss) xs) ≡ [] → (argument_faults s ms xs ≡ [] → Written x qs lq ms xs) → Written x qs lq (Some m ∷ ms) (argument_then (Output l name k r ss) xs)
  output_case x qs lq m ms l k name r ss xs q n fl taken place f rest =
      let fs = six (root_faults s false r ss) (along_faults s (root_line r) false (root_standing s r ss) ss) (whole_faults s r ss) (target_faults s r ss) (output_unsuited s (root_line r) (matched_type (Some m)) (place_type s r ss)) (argument_faults s ms xs) f in
      let o = place fs.0 fs.1 fs.2 in
      let w = Whole.its_place s p g a r ss (not_fixed l r ss fs.3) o in
      (w.root, w.along, subst (λ z. LeavesBy p x z (last_kind (root_note (typed_root s false r ss)).kind (typed_along s false (root_standing s r ss) ss))) (sym (matched_number l m qs ∙ n)) (subst (LeavesBy p x (Some q)) (sym w.last) (Params.leaves s p g a x (root_line r) m q fl taken o.kind (place_type s r ss) o.told fs.4)), rest fs.5)

  -- a name that is none of a parameter breaks a rule
  found_name : (l : ℕ) (name : List ℕ) (earlier : List (List ℕ)) (o : Matched) → when (is_none o || names_among name earlier) E09 l ≡ [] → (m : ℕ × DeclaredVariable) × (o ≡ Some m)
  found_name l name earlier None f = cc
  found_name l name earlier (Some m) f = (m, refl)

  abbrev Named : List DeclaredVariable → List (List ℕ) → List Head → Type 0
  Named vs earlier hs = named_unknown_or_twice vs earlier hs ≡ []

  named_split : (vs : List DeclaredVariable) (earlier : List (List ℕ)) (h : Head) (hs : List Head) → Named vs earlier (h ∷ hs) → (unknown_or_repeated vs earlier h ≡ []) × Named vs (earlier ++ head_names h) hs
  named_split vs earlier h hs f = none_in (unknown_or_repeated vs earlier h) (named_unknown_or_twice vs (earlier ++ head_names h) hs) f

  pub formed_indices : (ss : Selectors ℕ) → FormedAlong ss → Whole.AllHaveIndices s p g a ss
  formed_indices no_selectors h = tt
  formed_indices (selector_then (Field l n) ss) h = (tt, formed_indices ss h.1)
  formed_indices (selector_then (tree.Target l) ss) h = (tt, formed_indices ss h.1)
  formed_indices (selector_then (Index l no_expressions) ss) h = absurd h.0
  formed_indices (selector_then (Index l (expression_then e es)) ss) h = (tt, formed_indices ss h.1)

  none_left : (n : ℕ) → suc n ≤ 0 → ⊥
  none_left n h = omega (arith, h)

  one_less : (n k : ℕ) → suc n ≤ suc k → n ≤ k
  one_less n k h = omega (arith, h)

  -- the parameter that a name means
  input_by : (x : Option Routine) (vs : List DeclaredVariable) (qs lq : List Parameter) → TakesBy p x vs qs → (earlier : List (List ℕ)) (l : ℕ) (name : List ℕ) (e : Expression ℕ) (ms : List Matched) (xs : Arguments ℕ) → Given e
      → (o : Matched) → parameter_from is_given 0 name vs ≡ o → when (is_none o || names_among name earlier) E09 l ≡ []
      → argument_faults s (o ∷ ms) (argument_then (Input l name e) xs) ≡ [] → (argument_faults s ms xs ≡ [] → Written x qs lq ms xs) → Written x qs lq (o ∷ ms) (argument_then (Input l name e) xs)
  input_by x vs qs lq t earlier l name e ms xs given None h u f rest = cc
  input_by x vs qs lq t earlier l name e ms xs given (Some m) h u f rest =
      let q = Params.found_first p x is_given name vs qs t m h in
      input_case x qs lq m ms l name e xs q.0 q.1 q.2 q.3 given f rest

  output_by : (x : Option Routine) (vs : List DeclaredVariable) (qs lq : List Parameter) → TakesBy p x vs qs → (earlier : List (List ℕ)) (l k : ℕ) (name : List ℕ) (r : Root ℕ) (ss : Selectors ℕ) (ms : List Matched) (xs : Arguments ℕ)
      → (root_faults s false r ss ≡ [] → along_faults s (root_line r) false (root_standing s r ss) ss ≡ [] → whole_faults s r ss ≡ [] → Whole.PlaceOf s p g a r ss)
      → (o : Matched) → parameter_from is_taken 0 name vs ≡ o → when (is_none o || names_among name earlier) E09 l ≡ []
      → argument_faults s (o ∷ ms) (argument_then (Output l name k r ss) xs) ≡ [] → (argument_faults s ms xs ≡ [] → Written x qs lq ms xs) → Written x qs lq (o ∷ ms) (argument_then (Output l name k r ss) xs)
  output_by x vs qs lq t earlier l k name r ss ms xs place None h u f rest = cc
  output_by x vs qs lq t earlier l k name r ss ms xs place (Some m) h u f rest =
      let q = Params.found_first p x is_taken name vs qs t m h in
      output_case x qs lq m ms l k name r ss xs q.0 q.1 q.2 q.3 place f rest

  -- ---- what stands behind an untyped row

  anything : (u : Bool) (first : Asked) (t : Option StType) → operand_asked u false first t ≡ Anything
  unfolding operand_asked
  anything true first t = refl
  anything false first t = refl

  unasked : (untyped : Bool) (first : Asked) (t : Option StType) (e : Expression ℕ) → is_untyped e ≡ false → faults s (operand_asked untyped (is_untyped e) first t) e ≡ [] → faults s Anything e ≡ []
  unasked untyped first t e h f = subst (λ x. faults s x e ≡ []) (ap (λ b. operand_asked untyped b first t) h ∙ anything untyped first t) f

  behind_case : (asked : Asked) (l : ℕ) (o : Operator) (e : Expression ℕ) (ts : Tails ℕ) → AsksForTold (asked_behind s asked ts) → (is_untyped e ≡ false → Right Anything e) → AsksForTold (asked_behind s asked (tail_then l o e ts))
  behind_case asked l o e ts h r = by (is_untyped e) r (is_arithmetic o)
    where
      by : (b : Bool) → (b ≡ false → Right Anything e) → (c : Bool) → AsksForTold (if b then (if c then number_asked (asked_behind s asked ts) else Anything) else asked_of (type_of s Anything e))
      by true k true = Heart.asks_number (asked_behind s asked ts) h
      by true k false = tt
      by false k c = let q = k refl in Heart.asks_of (type_of s Anything e) q.kind q.told

  -- ---- calls: what is promised of one, where what is called and its arguments are as they are promised

  pub call_parts : (asked : Asked) (l : ℕ) (r : Root ℕ) (ss : Selectors ℕ) (xs : Arguments ℕ) → faults s asked (Call l r ss xs) ≡ [] → Callees.Passes s p g a l r ss (heads xs) × (argument_faults s (call_matches s (callee s r ss) (heads xs)) xs ≡ []) × (call_without_result l (callee s r ss) ≡ [])
  call_parts asked l r ss xs f =
      let fs = six (called_root_faults s r ss) (along_faults s (root_line r) true (root_standing s r ss) ss) (too_many_selectors s (root_line r) ss) (callee_faults s l (is_on_super r ss) (callee s r ss) (heads xs)) (argument_faults s (call_matches s (callee s r ss) (heads xs)) xs) (call_without_result l (callee s r ss)) f in
      (record { root = fs.0; along = fs.1; callee = fs.3 }, fs.4, fs.5)

  call_value : (asked : Asked) (l : ℕ) (r : Root ℕ) (ss : Selectors ℕ) (xs : Arguments ℕ) → FormedArguments xs → Called.ArgumentsGood s p g a xs → Joined.IsCallee s p g a r ss → faults s asked (Call l r ss xs) ≡ [] → Right asked (Call l r ss xs)
  call_value asked l r ss xs i good w f =
      let c = callee s r ss in
      let b = is_on_super r ss in
      let tr = typed_root s true r ss in
      let ts = typed_along s true (root_standing s r ss) ss in
      let fs = call_parts asked l r ss xs f in
      let v = Called.valued s p g a l b c (callee_of tr ts) (OperandIs p g (typed_arguments s (call_matches s c (heads xs)) xs)) (RootIs p g tr × CalledAlong p g ts (root_note tr).kind) (last_kind (root_note tr).kind ts) (called_of tr ts) xs w good
      (λ x y e. Operands.operand_of s p g a l b c x y xs e i good fs.0.callee fs.1) fs.0.callee fs.1 fs.2 in
      let t = told_as (call_type c) v.kind v.told in
      record {
        kind = v.kind;
        told = v.told;
        is = (
          subst (ConversionIs (callee_of tr ts)) (sym t) v.conversion,
          subst (λ u. CallIs p g (callee_of tr ts) (OperandIs p g (typed_arguments s (call_matches s c (heads xs)) xs)) (RootIs p g tr × CalledAlong p g ts (root_note tr).kind) (last_kind (root_note tr).kind ts) (called_of tr ts) (CallResultIs (callee_of tr ts) u (Called.Suited s p g a (called_of tr ts) (Called.Noted s p g a c xs))) (Called.Fit s p g a (called_of tr ts) (Called.Noted s p g a c xs))) (sym t) v.is,
        );
      }

  -- and of one that is a statement
  pub call_effect : (l : ℕ) (r : Root ℕ) (ss : Selectors ℕ) (xs : Arguments ℕ) → FormedArguments xs → Called.ArgumentsGood s p g a xs → Joined.IsCallee s p g a r ss → Callees.Passes s p g a l r ss (heads xs) → argument_faults s (call_matches s (callee s r ss) (heads xs)) xs ≡ []
      → (let tr = typed_root s true r ss in let ts = typed_along s true (root_standing s r ss) ss in let ys = Called.Noted s p g a (callee s r ss) xs in
      CallIs p g (callee_of tr ts) (OperandIs p g ys) (RootIs p g tr × CalledAlong p g ts (root_note tr).kind) (last_kind (root_note tr).kind ts) (called_of tr ts) (Called.Suited s p g a (called_of tr ts) ys) (Called.Fit s p g a (called_of tr ts) ys))
  call_effect l r ss xs i good w fs h =
      Called.effected s p g a l (is_on_super r ss) (callee s r ss) _ _ _ _ _ xs w good (λ x y e. Operands.operand_of s p g a l (is_on_super r ss) (callee s r ss) x y xs e i good fs.callee h) fs.callee h

  -- what stands behind SUPER leads on as behind THIS
  abbrev pub own_root : Root ℕ → Root ℕ
  own_root (root.Super l) = root.This l
  own_root r = r

  abbrev pub LeadsOn : Root ℕ → Selectors ℕ → Type 0
  LeadsOn r ss = (x : Selector ℕ) (rest : Selectors ℕ) → ss ≡ selector_then x rest → Callees.Beyond s p g a (own_root r) (selector_then x rest)

  pub any_callee : (l : ℕ) (r : Root ℕ) (ss : Selectors ℕ) (hs : List Head) → Whole.AllHaveIndices s p g a ss → LeadsOn r ss → Callees.Passes s p g a l r ss hs → Joined.IsCallee s p g a r ss
  any_callee l (root.Name k name) ss hs i on h = Callees.callee_is s p g a l (root.Name k name) ss hs tt i on h
  any_callee l (root.This k) ss hs i on h = Callees.callee_is s p g a l (root.This k) ss hs tt i on h
  any_callee l (root.Super k) ss hs i on h = Supers.super_is s p g a l k ss hs h on

  any_own : (r : Root ℕ) → Behind.Own s p g a (own_root r)
  any_own (root.This l) = λ c. refl
  any_own (root.Super l) = λ c. refl
  any_own (root.Name l name) = λ c. refl

  call_right : (asked : Asked) (l : ℕ) (r : Root ℕ) (ss : Selectors ℕ) (xs : Arguments ℕ) → Whole.AllHaveIndices s p g a ss → FormedArguments xs → Called.ArgumentsGood s p g a xs → LeadsOn r ss → faults s asked (Call l r ss xs) ≡ [] → Right asked (Call l r ss xs)
  call_right asked l r ss xs i formed good on f = call_value asked l r ss xs formed good (any_callee l r ss (heads xs) i on (call_parts asked l r ss xs f).0) f

  any_target : (line l : ℕ) (b : Standing) (called : Bool) → selector_faults s line called b (tree.Target l) ≡ selector_faults s line false b (tree.Target l)
  unfolding selector_faults
  any_target line l b called = refl

  any_index : (line l : ℕ) (b : Standing) (es : Expressions ℕ) (called : Bool) → selector_faults s line called b (Index l es) ≡ selector_faults s line false b (Index l es)
  unfolding selector_faults
  any_index line l b es called = refl

  -- where nothing stands behind, nothing is said
  abbrev BeyondIf : Root ℕ → Standing → StType → Selectors ℕ → Type 0
  BeyondIf r b t no_selectors = Unit {0}
  BeyondIf r b t (selector_then x ss) = Behind.Behind s p g a r b t (selector_then x ss)

  beyond_next : (r : Root ℕ) (line : ℕ) → Behind.Own s p g a r → (b : Standing) (t : StType) (x : Selector ℕ) (ss : Selectors ℕ) → Whole.AllHaveIndices s p g a (selector_then x ss) → ((l : ℕ) (n : List ℕ) → x ≡ Field l n → ss ≡ no_selectors → ⊥) → (o : Heart.Stepped s p g a b t x) → BeyondIf r (selected s b x) o.ends ss → Behind.Behind s p g a r b t (selector_then x ss)
  beyond_next r line own b t (Field l n) no_selectors i never o h = absurd (never l n refl refl)
  beyond_next r line own b t (Index l es) no_selectors i never o h = record { is = (o.is, tt); way = Behind.standing_way s p g a r own (selected s b (Index l es)) o.ends t o.stands (typed_selector s false b (Index l es)) refl o.noted }
  beyond_next r line own b t (tree.Target l) no_selectors i never o h = record { is = (o.is, tt); way = Behind.standing_way s p g a r own (selected s b (tree.Target l)) o.ends t o.stands (typed_selector s false b (tree.Target l)) refl o.noted }
  beyond_next r line own b t (Field l n) (selector_then y ss) i never o h = record { is = (o.is, subst (CalledAlong p g (typed_along s true (selected s b (Field l n)) (selector_then y ss))) (sym o.noted) h.is); way = Behind.way_next s p g a (callee_along s r (selected s b (Field l n)) (selector_then y ss)) t o.ends (typed_selector s false b (Field l n)) (typed_selector s (is_last ss) (selected s b (Field l n)) y) (typed_along s true (selected s (selected s b (Field l n)) y) ss) o.noted h.way }
  beyond_next r line own b t (Index l es) (selector_then y ss) i never o h = record { is = (o.is, subst (CalledAlong p g (typed_along s true (selected s b (Index l es)) (selector_then y ss))) (sym o.noted) h.is); way = Behind.way_next s p g a (callee_along s r (selected s b (Index l es)) (selector_then y ss)) t o.ends (typed_selector s false b (Index l es)) (typed_selector s (is_last ss) (selected s b (Index l es)) y) (typed_along s true (selected s (selected s b (Index l es)) y) ss) o.noted h.way }
  beyond_next r line own b t (tree.Target l) (selector_then y ss) i never o h = record { is = (o.is, subst (CalledAlong p g (typed_along s true (selected s b (tree.Target l)) (selector_then y ss))) (sym o.noted) h.is); way = Behind.way_next s p g a (callee_along s r (selected s b (tree.Target l)) (selector_then y ss)) t o.ends (typed_selector s false b (tree.Target l)) (typed_selector s (is_last ss) (selected s b (tree.Target l)) y) (typed_along s true (selected s (selected s b (tree.Target l)) y) ss) o.noted h.way }

  mutual
    pub expression : (asked : Asked) (e : Expression ℕ) → Formed e → AsksForTold asked → faults s asked e ≡ [] → Right asked e
    expression asked (Int l digits) i q f = int_right asked l digits q f
    expression asked (Typed l k literal) i q f = let t = typed_is l k literal f in record { kind = type.Elementary k; told = t.0; is = (told_as _ _ t.0, t.1) }
    expression asked (Time l text) i q f = record { kind = time; told = refl; is = (told_as (Some time) time refl, time_is l text f) }
    expression asked (True l) i q f = record { kind = boolean; told = refl; is = told_as (Some boolean) boolean refl }
    expression asked (False l) i q f = record { kind = boolean; told = refl; is = told_as (Some boolean) boolean refl }
    expression asked (Null l) i q f = record { kind = _; told = refl; is = subst IsHeld (sym (told_as _ _ refl)) (null_held asked) }
    expression asked (Place l r ss) i q f =
        let fs = three (root_faults s false r ss) (along_faults s (root_line r) false (root_standing s r ss) ss) (whole_faults s r ss) f in
        place_right asked l r ss (Whole.place_of s p g a r ss (formed_indices ss i.1) (λ b t h k. along (root_line r) b t ss i.1 h k) fs.0 fs.1 fs.2)
    expression asked (Call l r ss xs) i q f =
        call_right asked l r ss xs (formed_indices ss i.1.0) i.1.1 (λ w vs qs lq t left h earlier n u k. arguments xs i.1.1 w vs qs lq t left h earlier n u k)
        (λ x rest e b t h k. subst (BeyondIf (own_root r) b t) e (beyond (own_root r) (any_own r) (root_line (own_root r)) b t ss i.1.0 h (subst (λ z. along_faults s (root_line (own_root r)) true b z ≡ []) (sym e) k))) f
    expression asked (Enumerator l t k name) i q f = enumerator_right asked l k t name f
    expression asked (Ref l r ss) i q f =
        let fs = four (root_faults s false r ss) (along_faults s (root_line r) false (root_standing s r ss) ss) (whole_faults s r ss) (reference_to_no_instance (root_line r) (place_type s r ss)) f in
        ref_right asked l r ss (Whole.place_of s p g a r ss (formed_indices ss i.1) (λ b t h k. along (root_line r) b t ss i.1 h k) fs.0 fs.1 fs.2) fs.3
    expression asked (Now l) i q f = record { kind = time; told = refl; is = told_as (Some time) time refl }
    expression asked (Paren l e) i q f = let r = expression asked e i q f in record { kind = r.kind; told = r.told; is = (r.is, kind_told s asked e) }
    expression asked (Not l e) i q f =
        let fs = none_in (faults s Anything e) (operand_unsuited (line_of e) takes_not (type_of s Anything e)) f in
        let r = expression Anything e i tt fs.0 in
        let u = unary_right takes_not (line_of e) Anything e r fs.1 in
        record { kind = r.kind; told = u.0; is = (r.is, u.1, u.2) }
    expression asked (Negate l (Int k digits)) i q f = negative_right asked l k digits q f
    expression asked (Negate l e) i q f =
        let inner = front_asked (is_untyped e) (number_asked asked) in
        let fs = none_in (faults s inner e) (operand_unsuited (line_of e) takes_minus (type_of s inner e)) f in
        let r = expression inner e i (Heart.asks_front (is_untyped e) (number_asked asked) (Heart.asks_number asked q)) fs.0 in
        let u = unary_right takes_minus (line_of e) inner e r fs.1 in
        record { kind = r.kind; told = u.0; is = negated (note l (unary_type takes_minus (type_of s inner e)) target.Nothing) inner e (Negated l inner e) refl (r.is, u.1, u.2) }
    expression asked (Chain l e ts) i q f =
        let front = front_asked (is_untyped e) (asked_behind s asked ts) in
        let fs = none_in (faults s front e) (row_faults s (is_untyped e) front (type_of s front e) ts) f in
        let w : AsksForTold front = Heart.asks_front (is_untyped e) (asked_behind s asked ts) (behind (is_untyped e) front asked (type_of s front e) ts i.1 q fs.1) in
        let r = expression front e i.0 w fs.0 in
        let z = row (is_untyped e) front r.kind ts i.1 w (sym (ap (λ t. row_faults s (is_untyped e) front t ts) r.told) ∙ fs.1) in
        let told : row_type s (is_untyped e) front (type_of s front e) ts ≡ Some z.kind = ap (λ t. row_type s (is_untyped e) front t ts) r.told ∙ z.told in
        let k = told_as _ z.kind told in
        record {
          kind = z.kind;
          told = told;
          is = (
            r.is,
            subst (λ t. TailsAre p g t (typed_row s (is_untyped e) front (type_of s front e) ts) (Rattle.st_rules.specs.Expressions.told (row_type s (is_untyped e) front (type_of s front e) ts))) (sym (Heart.noted_kind s p g a front e r.kind r.told))
                (subst (λ o. TailsAre p g r.kind (typed_row s (is_untyped e) front o ts) (Rattle.st_rules.specs.Expressions.told (row_type s (is_untyped e) front (type_of s front e) ts))) (sym r.told) (subst (TailsAre p g r.kind (typed_row s (is_untyped e) front (Some r.kind) ts)) (sym k) z.is)),
          );
        }

    row : (untyped : Bool) (asked : Asked) (t : StType) (ts : Tails ℕ) → FormedTails ts → AsksForTold asked → row_faults s untyped asked (Some t) ts ≡ [] → Heart.Rowed s p g a untyped asked t ts
    row untyped asked t no_tails i q f = record { kind = t; told = refl; is = refl }
    row untyped asked t (tail_then l o e ts) i q f =
        let inner = operand_asked untyped (is_untyped e) asked (Some t) in
        let fs = three (faults s inner e) (row_unsuited e l o (Some t) (type_of s inner e)) (row_faults s (is_arithmetic o && untyped && is_untyped e) asked (operation_type o (Some t) (type_of s inner e)) ts) f in
        Heart.row_next s p g a untyped asked t l o e ts (expression inner e i.0 (Heart.asks_operand untyped (is_untyped e) asked t q) fs.0) fs.1 (λ w k. row (is_arithmetic o && untyped && is_untyped e) asked w ts i.1 q k) fs.2

    indices : (line : ℕ) (t : StType) (es : Expressions ℕ) → FormedEach es → index_faults s es ≡ [] → indices_on_no_array line (count_expressions es) (Some t) ≡ [] → Heart.Indexed s p g a t es
    indices line t no_expressions i f k = record { ends = t; told = refl; is = refl }
    indices line t (expression_then e es) i f k =
        let fs = three (faults s Anything e) (index_unsuited (line_of e) (type_of s Anything e)) (index_faults s es) f in
        Heart.indexed_next s p g a line t e es (expression Anything e i.0 tt fs.0) fs.1 (λ w q. indices line w es i.1 fs.2 q) k

    along : (line : ℕ) (b : Standing) (t : StType) (ss : Selectors ℕ) → FormedAlong ss → StandsAs b t → along_faults s line false b ss ≡ [] → Heart.Ahead s p g a b t ss
    along line b t no_selectors i h f = record { ends = t; stands = h; last = refl; is = tt }
    along line b t (selector_then (Field l n) ss) i h f =
        let fs = Whole.parts_of_along s p g a line false b (Field l n) ss f in
        let o = Heart.field_step s p g a l line b t n h fs.0 in
        Heart.next s p g a b t (Field l n) ss o (along line (selected s b (Field l n)) o.ends ss i.1 o.stands fs.2)
    along line b t (selector_then (tree.Target l) ss) i h f =
        let fs = Whole.parts_of_along s p g a line false b (tree.Target l) ss f in
        let o = Heart.target_step s p g a l line b t h fs.0 in
        Heart.next s p g a b t (tree.Target l) ss o (along line (selected s b (tree.Target l)) o.ends ss i.1 o.stands fs.2)
    along line b t (selector_then (Index l no_expressions) ss) i h f = absurd i.0
    along line b t (selector_then (Index l (expression_then e es)) ss) i h f =
        let fs = Whole.parts_of_along s p g a line false b (Index l (expression_then e es)) ss f in
        let o = Heart.index_step s p g a l line b t (expression_then e es) h (λ k. indices line t (expression_then e es) i.0 fs.1 k) fs.0 in
        Heart.next s p g a b t (Index l (expression_then e es)) ss o (along line (selected s b (Index l (expression_then e es))) o.ends ss i.1 o.stands fs.2)

    beyond : (r : Root ℕ) → Behind.Own s p g a r → (line : ℕ) (b : Standing) (t : StType) (ss : Selectors ℕ) → FormedAlong ss → StandsAs b t → along_faults s line true b ss ≡ [] → BeyondIf r b t ss
    beyond r own line b t no_selectors i h f = tt
    beyond r own line b t (selector_then (Field l n) no_selectors) i h f = Behind.field_last s p g a r line l b t n h ((Whole.parts_of_along s p g a line true b (Field l n) no_selectors f).0)
    beyond r own line b t (selector_then (Field l n) (selector_then y ss)) i h f =
        let fs = Whole.parts_of_along s p g a line true b (Field l n) (selector_then y ss) f in
        let o = Heart.field_step s p g a l line b t n h fs.0 in
        beyond_next r line own b t (Field l n) (selector_then y ss) (formed_indices (selector_then (Field l n) (selector_then y ss)) i) (λ u v e k. cc) o (beyond r own line (selected s b (Field l n)) o.ends (selector_then y ss) i.1 o.stands fs.2)
    beyond r own line b t (selector_then (tree.Target l) ss) i h f =
        let fs = Whole.parts_of_along s p g a line true b (tree.Target l) ss f in
        let o = Heart.target_step s p g a l line b t h (sym (any_target line l b (true && is_last ss)) ∙ fs.0) in
        beyond_next r line own b t (tree.Target l) ss (formed_indices (selector_then (tree.Target l) ss) i) (λ u v e k. cc) o (beyond r own line (selected s b (tree.Target l)) o.ends ss i.1 o.stands fs.2)
    beyond r own line b t (selector_then (Index l no_expressions) ss) i h f = absurd i.0
    beyond r own line b t (selector_then (Index l (expression_then e es)) ss) i h f =
        let fs = Whole.parts_of_along s p g a line true b (Index l (expression_then e es)) ss f in
        let o = Heart.index_step s p g a l line b t (expression_then e es) h (λ k. indices line t (expression_then e es) i.0 fs.1 k) (sym (any_index line l b (expression_then e es) (true && is_last ss)) ∙ fs.0) in
        beyond_next r line own b t (Index l (expression_then e es)) ss (formed_indices (selector_then (Index l (expression_then e es)) ss) i) (λ u v e k. cc) o (beyond r own line (selected s b (Index l (expression_then e es))) o.ends ss i.1 o.stands fs.2)

    behind : (untyped : Bool) (first asked : Asked) (t : Option StType) (ts : Tails ℕ) → FormedTails ts → AsksForTold asked → row_faults s untyped first t ts ≡ [] → AsksForTold (asked_behind s asked ts)
    behind untyped first asked t no_tails i q f = q
    behind untyped first asked t (tail_then l o e ts) i q f =
        let inner = operand_asked untyped (is_untyped e) first t in
        let fs = three (faults s inner e) (row_unsuited e l o t (type_of s inner e)) (row_faults s (is_arithmetic o && untyped && is_untyped e) first (operation_type o t (type_of s inner e)) ts) f in
        behind_case asked l o e ts (behind (is_arithmetic o && untyped && is_untyped e) first asked (operation_type o t (type_of s inner e)) ts i.1 q fs.2) (λ h. expression Anything e i.0 tt (unasked untyped first t e h fs.0))

    pub arguments : (xs : Arguments ℕ) → FormedArguments xs → (x : Option Routine) (vs : List DeclaredVariable) (qs lq : List Parameter) → TakesBy p x vs qs → (left : List (ℕ × DeclaredVariable)) → Params.LeftIs p x left lq → (earlier : List (List ℕ)) → count_unnamed (heads xs) ≤ length left → Named vs earlier (heads xs)
        → argument_faults s (matched vs left (heads xs)) xs ≡ [] → Written x qs lq (matched vs left (heads xs)) xs
    arguments no_arguments i x vs qs lq t left h earlier n u f = tt
    arguments (argument_then (Positional e) xs) i x vs qs lq t [] h earlier n u f = absurd (none_left (count_unnamed (heads xs)) n)
    arguments (argument_then (Positional e) xs) i x vs qs lq t (m ∷ left) h earlier n u f =
        positional_case x qs lq m (matched vs left (heads xs)) e xs h.0 h.1 h.2 h.3 (λ asked q k. expression asked e i.0 q k) f
        (λ k. arguments xs i.1 x vs qs (behind_next lq) t left h.4 (earlier ++ []) (one_less (count_unnamed (heads xs)) (length left) n) u k)
    arguments (argument_then (Input l name e) xs) i x vs qs lq t left h earlier n u f =
        let us = named_split vs earlier (Rattle.st_rules.specs.Calls.names_input l name) (heads xs) u in
        input_by x vs qs lq t earlier l name e (matched vs left (heads xs)) xs (λ asked q k. expression asked e i.0.1 q k) (parameter_from is_given 0 name vs) refl us.0 f
        (λ k. arguments xs i.1 x vs qs lq t left h (earlier ++ name ∷ []) n us.1 k)
    arguments (argument_then (Output l name k r ss) xs) i x vs qs lq t left h earlier n u f =
        let us = named_split vs earlier (Rattle.st_rules.specs.Calls.names_output l name) (heads xs) u in
        output_by x vs qs lq t earlier l k name r ss (matched vs left (heads xs)) xs (λ q w z. Whole.place_of s p g a r ss (formed_indices ss i.0.1.1) (λ b e h1 k1. along (root_line r) b e ss i.0.1.1 h1 k1) q w z) (parameter_from is_taken 0 name vs) refl us.0 f
        (λ z. arguments xs i.1 x vs qs lq t left h (earlier ++ name ∷ []) n us.1 z)

  pub place_whole : (r : Root ℕ) (ss : Selectors ℕ) → FormedAlong ss → root_faults s false r ss ≡ [] → along_faults s (root_line r) false (root_standing s r ss) ss ≡ [] → whole_faults s r ss ≡ [] → Whole.PlaceOf s p g a r ss
  place_whole r ss i f k w = Whole.place_of s p g a r ss (formed_indices ss i) (λ b t h q. along (root_line r) b t ss i h q) f k w

  -- ---- what calls that are statements need

  pub leads_on : (r : Root ℕ) (ss : Selectors ℕ) → FormedAlong ss → LeadsOn r ss
  leads_on r ss i x rest e b t h k = subst (BeyondIf (own_root r) b t) e (beyond (own_root r) (any_own r) (root_line (own_root r)) b t ss i h (subst (λ z. along_faults s (root_line (own_root r)) true b z ≡ []) (sym e) k))

  pub good_of : (xs : Arguments ℕ) → FormedArguments xs → Called.ArgumentsGood s p g a xs
  good_of xs i w vs qs lq t left h earlier n u k = arguments xs i w vs qs lq t left h earlier n u k
