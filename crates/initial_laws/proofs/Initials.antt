-- What is given as an initial value and breaks no rule is one of its type.
use Rattle.std.proofs.Common.{◌≡◌, ℕ, true, false, List, [], ◌∷◌, ◌++◌, Option, Some, None, refl, sym, ap, ◌∙◌, subst}
use Rattle.std.specs.Prelude.{if◌then◌else◌}
use Rattle.std.specs.Option.{is_some}
use Rattle.st_types.specs.declared.st_type.StType.{StType, out-StType}
use Rattle.st_types.specs.declared.st_type.StType.TheVariants as type
use Rattle.st_types.specs.declared.st_type.StType.TheOpen.{StType-F}
use Rattle.st_tree.specs.declared.program.Note.{Note}
use Rattle.st_tree.specs.Expression.{Expression, Int, Typed, Time, True, False, Null, Place, Call, Enumerator, Ref, Now, Paren, Not, Negate, Chain}
use Rattle.st_tree.specs.Initial.{Initial, Value, Array, Fields, One, Repeated, Parts, no_parts, part_then, FieldInits, no_fields, field_then}
use Rattle.st_tree.specs.Number.{number_of}
use Rattle.st_rules.specs.declared.asked.Asked.{Asked}
use Rattle.st_rules.specs.declared.asked.Asked.TheVariants.{Wanted}
use Rattle.st_rules.specs.declared.names.DeclaredField.{DeclaredField}
use Rattle.st_rules.specs.declared.names.DeclaredVariable.{DeclaredVariable}
use Rattle.st_rules.specs.Expressions.{faults, typed}
use Rattle.st_rules.specs.Kinds.{element_at_level}
use Rattle.st_rules.specs.Literals.{asked_of, past_64_bits}
use Rattle.st_rules.specs.Scope.{Scope, field_named, instance_variable}
use Rattle.st_rules.proofs.Booleans.{true≢false, false≢true}
use Rattle.st_unit_rules.specs.declared_names.Constants.{Outcome, comes_to, divides_by_zero, cannot_be_told, constant_value, constant_faults, value_faults, told_value, if_none, names_are_told, no_constant_part}
use Rattle.st_unit_rules.specs.Initials.{count_parts, element_at, element_given, is_no_array, has_no_fields, list_of_no_array, more_values_than_elements, list_of_no_fields, given_type, field_not_found, field_named_twice, field_out_of_access, outcome_target, with_note, of_structure, of_instance, given_by, initial_faults, part_faults, given_faults, typed_constant, typed_initial, typed_parts, typed_fields}
use Rattle.st_values.specs.Initial.{note_of, constant}
use Rattle.st_values.specs.Program.{Program}
use Rattle.accepted_texts.specs.formed_units.Formed.{FormedInitial, FormedParts, FormedFields}
use Rattle.accepted_texts.specs.told_units.Formed.{HasNames}
use Rattle.accepted_texts.proofs.formed_texts.Units.{has_names}
use Rattle.accepted_texts.proofs.told_units.TypeLaws.{ValuesHaveTypes, holds-not}
use Rattle.accepted_texts.proofs.told_units.Value.{breaks-none, comes-to}
use Rattle.accepted_texts.proofs.unfolding_laws.CycleLaws.{none_in}
use Rattle.constant_laws.specs.Given.{NumberOf, PartNamed, InitialIs, PartsAre, FieldsAre}
use Rattle.constant_laws.proofs.Numbers.{OutcomeOf}
use Rattle.constant_laws.proofs.Constants.{ScopeFits, wanted_value}

noted_by : (f : Note → Note) (e : Expression Note) → note_of (with_note f e) ≡ f (note_of e)
noted_by f (Int a digits) = refl
noted_by f (Typed a k literal) = refl
noted_by f (Time a text) = refl
noted_by f (True a) = refl
noted_by f (False a) = refl
noted_by f (Null a) = refl
noted_by f (Place a r ss) = refl
noted_by f (Call a r ss xs) = refl
noted_by f (Enumerator a t b n) = refl
noted_by f (Ref a r ss) = refl
noted_by f (Now a) = refl
noted_by f (Paren a e) = refl
noted_by f (Not a e) = refl
noted_by f (Negate a e) = refl
noted_by f (Chain a e ts) = refl

asked_wanted : (t : StType) → asked_of (Some t) ≡ Wanted t
unfolding asked_of
asked_wanted t = refl

module _ (pp : Program) (s : Scope) where
  -- what is known of a scope in which initial values stand
  pub record Knows : Type 0 where
    pub types : ValuesHaveTypes s
    pub fit : ScopeFits pp s
    pub told : (e : Expression ℕ) (asked : Asked) → faults s asked e ≡ [] → no_constant_part s e ≡ [] → names_are_told s e ≡ true
    pub field : (n : ℕ) (name : List ℕ) (f : ℕ × DeclaredField) → field_named s n name ≡ Some f → (u : StType) × (f.1.kind ≡ Some u) × PartNamed pp (type.Structure n) name u
    pub member : (c : ℕ) (name : List ℕ) (m : ℕ × DeclaredVariable) → instance_variable s c name ≡ Some m → (u : StType) × (m.1.kind ≡ Some u) × PartNamed pp (type.Instance c) name u

  module _ (k : Knows) where
    settled : (t : StType) (x : Outcome) → OutcomeOf pp t x → is_some (if_none [] x) ≡ true → NumberOf pp t (constant (outcome_target x))
    settled t (comes_to z) h e = h
    settled t (divides_by_zero l) h e = absurd (false≢true e)
    settled t cannot_be_told h e = absurd (false≢true e)

    value_comes : (t : StType) (e : Expression ℕ) → HasNames e → constant_faults s (Wanted t) e ≡ [] → NumberOf pp t (constant (outcome_target (constant_value s (Wanted t) e)))
    unfolding told_value
    value_comes t e n f =
        let b = breaks-none s (Wanted t) e f in
        let h = k.told e (Wanted t) b.expression b.parts in
        let x = constant_value s (Wanted t) e in
        let some = comes-to s k.types (Wanted t) e n tt h f in
        settled t x (wanted_value pp s k.types k.fit t e h b.whole)
        (sym (ap (λ fs. is_some (if_none fs x)) b.whole) ∙ (sym (ap (λ z. is_some (if z then if_none (value_faults s (Wanted t) e) x else None)) h) ∙ some))

    value_is : (t : StType) (e : Expression ℕ) → HasNames e → constant_faults s (Wanted t) e ≡ [] → NumberOf pp t (constant (note_of (typed_constant s (Wanted t) e)).target)
    value_is t e n f =
        subst (λ (a : Note). NumberOf pp t (constant a.target)) (sym (noted_by (λ a. record a { target = outcome_target (constant_value s (Wanted t) e) }) (typed s (Wanted t) e)))
        (value_comes t e n f)

    value_given : (t : StType) (e : Expression ℕ) → HasNames e → constant_faults s (asked_of (Some t)) e ≡ [] → NumberOf pp t (constant (note_of (typed_constant s (asked_of (Some t)) e)).target)
    value_given t e n f =
        subst (λ a. NumberOf pp t (constant (note_of (typed_constant s a e)).target)) (sym (asked_wanted t))
        (value_is t e n (subst (λ a. constant_faults s a e ≡ []) (asked_wanted t) f))

    -- ---- names in a list

    abbrev Named : StType → List ℕ → Type 0
    Named t name = (u : StType) × (given_type (given_by s (Some t) name) ≡ Some u) × PartNamed pp t name u

    structure_named : (n : ℕ) (name : List ℕ) (l : ℕ) (o : Option (ℕ × DeclaredField)) → field_named s n name ≡ o → field_not_found l (of_structure s o) ≡ [] → (u : StType) × (given_type (of_structure s o) ≡ Some u) × PartNamed pp (type.Structure n) name u
    structure_named n name l None e f = absurd (true≢false (holds-not true _ l f))
    structure_named n name l (Some x) e f = k.field n name x e

    instance_named : (c : ℕ) (name : List ℕ) (l : ℕ) (o : Option (ℕ × DeclaredVariable)) → instance_variable s c name ≡ o → field_not_found l (of_instance s o) ≡ [] → (u : StType) × (given_type (of_instance s o) ≡ Some u) × PartNamed pp (type.Instance c) name u
    instance_named c name l None e f = absurd (true≢false (holds-not true _ l f))
    instance_named c name l (Some x) e f = k.member c name x e

    named : (t : StType) (name : List ℕ) (l : ℕ) → has_no_fields t ≡ false → field_not_found l (given_by s (Some t) name) ≡ [] → Named t name
    named (type.Structure n) name l h f = structure_named n name l (field_named s n name) refl f
    named (type.Instance c) name l h f = instance_named c name l (instance_variable s c name) refl f
    named _ name l h f = absurd (true≢false h)

    -- ---- lists

    array_by : (ps : Parts ℕ) (o : StType-F StType) → is_no_array o ≡ false → ((of : StType) → part_faults s (Some of) ps ≡ [] → PartsAre pp (Some of) (typed_parts s (Some of) ps)) → part_faults s (element_at o) ps ≡ []
        → PartsAre pp (element_at_level o) (typed_parts s (element_at o) ps)
    array_by ps (StType-F.Array low high of) h g f = g of f
    array_by ps _ h g f = absurd (true≢false h)

    mutual
      pub initial_is : (i : Initial ℕ) (t : StType) → FormedInitial i → initial_faults s (Some t) i ≡ [] → InitialIs pp t (typed_initial s (Some t) i)
      initial_is (Value e) t n f = value_given t e (has_names e n) f
      initial_is (Array l ps) t n f =
          let a = none_in (list_of_no_array l (Some t) ++ more_values_than_elements l (Some t) (count_parts ps)) (part_faults s (element_given (Some t)) ps) f in
          let b = none_in (list_of_no_array l (Some t)) (more_values_than_elements l (Some t) (count_parts ps)) a.0 in
          array_by ps (out-StType t) (holds-not (is_no_array (out-StType t)) _ l b.0) (λ of g. parts_are ps of n g) a.1
      initial_is (Fields l fs) t n f =
          let a = none_in (list_of_no_fields l (Some t)) (given_faults s (Some t) [] fs) f in
          fields_are fs t [] n (holds-not (has_no_fields t) _ l a.0) a.1

      parts_are : (ps : Parts ℕ) (t : StType) → FormedParts ps → part_faults s (Some t) ps ≡ [] → PartsAre pp (Some t) (typed_parts s (Some t) ps)
      parts_are no_parts t n f = tt
      parts_are (part_then (One i) ps) t n f =
          let a = none_in (initial_faults s (Some t) i) (part_faults s (Some t) ps) f in
          (initial_is i t n.0 a.0, parts_are ps t n.1 a.1)
      parts_are (part_then (Repeated l digits i) ps) t n f =
          let a = none_in (past_64_bits l (number_of digits) ++ initial_faults s (Some t) i) (part_faults s (Some t) ps) f in
          let b = none_in (past_64_bits l (number_of digits)) (initial_faults s (Some t) i) a.0 in
          (initial_is i t n.0 b.1, parts_are ps t n.1 a.1)

      fields_are : (fs : FieldInits ℕ) (t : StType) (before : List (List ℕ)) → FormedFields fs → has_no_fields t ≡ false → given_faults s (Some t) before fs ≡ [] → FieldsAre pp t (typed_fields s (Some t) fs)
      fields_are no_fields t before n h f = tt
      fields_are (field_then l name i fs) t before n h f =
          let g = given_by s (Some t) name in
          let a = none_in (field_not_found l g ++ field_named_twice l before name ++ field_out_of_access s l g ++ initial_faults s (given_type g) i) (given_faults s (Some t) (before ++ name ∷ []) fs) f in
          let b = none_in (field_not_found l g ++ field_named_twice l before name ++ field_out_of_access s l g) (initial_faults s (given_type g) i) a.0 in
          let c = none_in (field_not_found l g ++ field_named_twice l before name) (field_out_of_access s l g) b.0 in
          let d = none_in (field_not_found l g) (field_named_twice l before name) c.0 in
          let x = named t name l h d.0 in (
            x.0,
            x.2,
            subst (λ o. InitialIs pp x.0 (typed_initial s o i)) (sym x.1) (initial_is i x.0 n.1.0 (subst (λ o. initial_faults s o i ≡ []) x.1 b.1)),
            fields_are fs t (before ++ name ∷ []) n.1.1 h a.1,
          )
