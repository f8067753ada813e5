-- Within so many steps a type has a worth as it has one within more, or has none.
use Rattle.std.proofs.Common.{◌≡◌, ℕ, zero, suc, ℤ, Bool, true, false, List, [], ◌∷◌, Option, Some, None, refl, sym, ap, ◌∙◌, true≢false}
use Rattle.std.specs.Prelude.{◌&&◌, ◌||◌, ◌++◌, ◌-ℤ◌, map, flat_map, option_map, slice_get}
use Rattle.std.proofs.lemmas.Bool.{eqb-true}
use Rattle.st_types.specs.declared.st_type.StType.{StType, out-StType}
use Rattle.st_types.specs.declared.st_type.StType.TheOpen.{StType-F}
use Rattle.st_tree.specs.declared.declaration.FieldGroup.{FieldGroup}
use Rattle.st_tree.specs.declared.declaration.TypeDecl.{TypeDecl}
use Rattle.st_tree.specs.declared.name.Name.{Name}
use Rattle.st_tree.specs.Initial.{Initial, initial_of}
use Rattle.st_rules.specs.Scope.{Scope}
use Rattle.st_unit_rules.specs.declared_names.WrittenTypes.{type_written}
use Rattle.st_unit_rules.specs.Worth.{Worth, Worths, no_worths, some_parts, worth_before, elements_worth, groups_of, count_to, list_given, given_for, Weighs, typed_worth, field_worth, names_worth, groups_worth, level_worth, worth_within}
use Rattle.default_values.specs.worth_steps.Steps.{is_zero, passes_told, pass_all_told, group_kinds, field_kinds, has_level, takes_steps}
use Rattle.default_values.specs.worth_steps.StepLaws.{StepLaws}

-- ---- tests of lists

both : (a b : Bool) → (a && b) ≡ true → (a ≡ true) × (b ≡ true)
both true b h = (refl, h)
both false b h = absurd (true≢false (sym h))

split_all : (test : StType → Bool) (xs ys : List (Option StType)) → pass_all_told test (xs ++ ys) ≡ (pass_all_told test xs && pass_all_told test ys)
split_all test [] ys = refl
split_all test (x ∷ xs) ys = ap (λ b. passes_told test x && b) (split_all test xs ys) ∙ grouped (passes_told test x) (pass_all_told test xs) (pass_all_told test ys)
  where
    grouped : (a b c : Bool) → (a && (b && c)) ≡ ((a && b) && c)
    grouped true b c = refl
    grouped false b c = refl

none_before : (o : Option Worths) → worth_before None o ≡ None
none_before None = refl
none_before (Some ws) = refl

before_none : (o : Option Worth) → worth_before o None ≡ None
before_none None = refl
before_none (Some w) = refl

-- ---- what is found by two ways of weighing

module _ (unit : Scope) (entries : List (TypeDecl ℕ)) (f g : Scope → StType → Option (Initial ℕ) → Option Worth) (test : StType → Bool) where
  module _ (same : (s : Scope) (t : StType) (i : Option (Initial ℕ)) → test t ≡ true → g s t i ≡ f s t i) where
    same_typed : (s : Scope) (o : Option StType) (i : Option (Initial ℕ)) → passes_told test o ≡ true → typed_worth unit entries g s o i ≡ typed_worth unit entries f s o i
    same_typed s None i h = refl
    same_typed s (Some t) i h = same s t i h

    same_field : (s : Scope) (group : FieldGroup ℕ) (i : Option (Initial ℕ)) → passes_told test (type_written unit group.kind) ≡ true
        → field_worth unit entries g s group i ≡ field_worth unit entries f s group i
    same_field s group (Some i) h = same_typed s (type_written unit group.kind) (Some i) h
    same_field s group None h = same_typed unit (type_written unit group.kind) (option_map initial_of group.initial) h

    same_names : (s : Scope) (i : Option (Initial ℕ)) (group : FieldGroup ℕ) (names : List Name) (a b : Option Worths) → a ≡ b
        → pass_all_told test (map (λ (n : Name). type_written unit group.kind) names) ≡ true → names_worth unit entries g s i group names a ≡ names_worth unit entries f s i group names b
    same_names s i group [] a b e h = e
    same_names s i group (n ∷ ns) a b e h =
        let p = both (passes_told test (type_written unit group.kind)) (pass_all_told test (map (λ (m : Name). type_written unit group.kind) ns)) h in
        let q = same_field s group (given_for n.text i) p.0 in
        let r = same_names s i group ns a b e p.1 in
        λ j. worth_before (q j) (r j)

    same_groups : (s : Scope) (i : Option (Initial ℕ)) (gs : List (FieldGroup ℕ)) → pass_all_told test (flat_map (group_kinds unit entries) gs) ≡ true
        → groups_worth unit entries g s i gs ≡ groups_worth unit entries f s i gs
    same_groups s i [] h = refl
    same_groups s i (group ∷ gs) h =
        let own = group_kinds unit entries group in
        let p = both (pass_all_told test own) (pass_all_told test (flat_map (group_kinds unit entries) gs)) (sym (split_all test own (flat_map (group_kinds unit entries) gs)) ∙ h) in
        same_names s i group group.names (groups_worth unit entries g s i gs) (groups_worth unit entries f s i gs) (same_groups s i gs p.1) p.0

    same_elements : (s : Scope) (of : StType) (count : ℕ) (is : List (Initial ℕ)) → (is_zero count || test of) ≡ true
        → elements_worth (g s of) count is ≡ elements_worth (f s of) count is
    same_elements s of zero is h = refl
    same_elements s of (suc n) is h = let e = λ (i : Option (Initial ℕ)). same s of i h in λ j. elements_worth (λ i. e i j) (suc n) is

    pub same_level : (s : Scope) (t : StType) (x : StType-F StType) (i : Option (Initial ℕ)) → has_level unit entries test x ≡ true
        → level_worth unit entries g s t x i ≡ level_worth unit entries f s t x i
    same_level s t (StType-F.Elementary e) i h = refl
    same_level s t (StType-F.Enumeration n) i h = refl
    same_level s t (StType-F.Reference c) i h = refl
    same_level s t (StType-F.Interface k) i h = refl
    same_level s t (StType-F.Array low high of) i h = ap (option_map some_parts) (same_elements s of (count_to (high -ℤ low)) (list_given i) h)
    same_level s t (StType-F.Structure n) i h = ap (option_map some_parts) (same_groups s i (groups_of (slice_get entries n)) h)
    same_level s t (StType-F.Instance c) i h = refl

  -- ---- what is not found

  module _ (none : (s : Scope) (t : StType) (i : Option (Initial ℕ)) → test t ≡ false → f s t i ≡ None) where
    none_typed : (s : Scope) (o : Option StType) (i : Option (Initial ℕ)) → passes_told test o ≡ false → typed_worth unit entries f s o i ≡ None
    none_typed s None i h = refl
    none_typed s (Some t) i h = none s t i h

    none_field : (s : Scope) (group : FieldGroup ℕ) (i : Option (Initial ℕ)) → passes_told test (type_written unit group.kind) ≡ false → field_worth unit entries f s group i ≡ None
    none_field s group (Some i) h = none_typed s (type_written unit group.kind) (Some i) h
    none_field s group None h = none_typed unit (type_written unit group.kind) (option_map initial_of group.initial) h

    -- with nothing behind, or with a name whose type does not pass
    none_behind : (s : Scope) (i : Option (Initial ℕ)) (group : FieldGroup ℕ) (names : List Name) (a : Option Worths) → a ≡ None → names_worth unit entries f s i group names a ≡ None
    none_behind s i group [] a h = h
    none_behind s i group (n ∷ ns) a h = ap (worth_before (field_worth unit entries f s group (given_for n.text i))) (none_behind s i group ns a h) ∙ before_none (field_worth unit entries f s group (given_for n.text i))

    none_names : (s : Scope) (i : Option (Initial ℕ)) (group : FieldGroup ℕ) (names : List Name) (a : Option Worths)
        → pass_all_told test (map (λ (n : Name). type_written unit group.kind) names) ≡ false → names_worth unit entries f s i group names a ≡ None
    none_names s i group [] a h = absurd (true≢false h)
    none_names s i group (n ∷ ns) a h = by (none_names s i group ns a) (passes_told test (type_written unit group.kind)) refl h
      where
        by : (pass_all_told test (map (λ (m : Name). type_written unit group.kind) ns) ≡ false → names_worth unit entries f s i group ns a ≡ None)
            → (b : Bool) → passes_told test (type_written unit group.kind) ≡ b → (b && pass_all_told test (map (λ (m : Name). type_written unit group.kind) ns)) ≡ false
            → worth_before (field_worth unit entries f s group (given_for n.text i)) (names_worth unit entries f s i group ns a) ≡ None
        by behind true e h = ap (worth_before (field_worth unit entries f s group (given_for n.text i))) (behind h) ∙ before_none (field_worth unit entries f s group (given_for n.text i))
        by behind false e h = ap (λ o. worth_before o (names_worth unit entries f s i group ns a)) (none_field s group (given_for n.text i) e) ∙ none_before (names_worth unit entries f s i group ns a)

    none_groups : (s : Scope) (i : Option (Initial ℕ)) (gs : List (FieldGroup ℕ)) → pass_all_told test (flat_map (group_kinds unit entries) gs) ≡ false → groups_worth unit entries f s i gs ≡ None
    none_groups s i [] h = absurd (true≢false h)
    none_groups s i (group ∷ gs) h = by (none_groups s i gs) (pass_all_told test (group_kinds unit entries group)) refl (sym (split_all test (group_kinds unit entries group) (flat_map (group_kinds unit entries) gs)) ∙ h)
      where
        by : (pass_all_told test (flat_map (group_kinds unit entries) gs) ≡ false → groups_worth unit entries f s i gs ≡ None)
            → (b : Bool) → pass_all_told test (group_kinds unit entries group) ≡ b → (pass_all_told test (group_kinds unit entries group) && pass_all_told test (flat_map (group_kinds unit entries) gs)) ≡ false
            → names_worth unit entries f s i group group.names (groups_worth unit entries f s i gs) ≡ None
        by behind true e h = none_behind s i group group.names (groups_worth unit entries f s i gs) (behind (sym (ap (λ b. b && pass_all_told test (flat_map (group_kinds unit entries) gs)) e) ∙ h))
        by behind false e h = none_names s i group group.names (groups_worth unit entries f s i gs) e

    none_elements : (s : Scope) (of : StType) (count : ℕ) (is : List (Initial ℕ)) → (is_zero count || test of) ≡ false → elements_worth (f s of) count is ≡ None
    none_elements s of zero is h = absurd (true≢false h)
    none_elements s of (suc n) [] h = ap (λ o. worth_before o (elements_worth (f s of) n [])) (none s of None h) ∙ none_before (elements_worth (f s of) n [])
    none_elements s of (suc n) (i ∷ is) h = ap (λ o. worth_before o (elements_worth (f s of) n is)) (none s of (Some i) h) ∙ none_before (elements_worth (f s of) n is)

    pub none_level : (s : Scope) (t : StType) (x : StType-F StType) (i : Option (Initial ℕ)) → has_level unit entries test x ≡ false → level_worth unit entries f s t x i ≡ None
    none_level s t (StType-F.Elementary e) i h = absurd (true≢false h)
    none_level s t (StType-F.Enumeration n) i h = absurd (true≢false h)
    none_level s t (StType-F.Reference c) i h = absurd (true≢false h)
    none_level s t (StType-F.Interface k) i h = absurd (true≢false h)
    none_level s t (StType-F.Array low high of) i h = ap (option_map some_parts) (none_elements s of (count_to (high -ℤ low)) (list_given i) h)
    none_level s t (StType-F.Structure n) i h = ap (option_map some_parts) (none_groups s i (groups_of (slice_get entries n)) h)
    none_level s t (StType-F.Instance c) i h = refl

-- ---- tests that pass more

module _ (unit : Scope) (entries : List (TypeDecl ℕ)) (test more : StType → Bool) (passes : (t : StType) → test t ≡ true → more t ≡ true) where
  more_all : (ts : List (Option StType)) → pass_all_told test ts ≡ true → pass_all_told more ts ≡ true
  more_all [] h = refl
  more_all (None ∷ ts) h = absurd (true≢false (sym h))
  more_all (Some t ∷ ts) h = let p = both (test t) (pass_all_told test ts) h in ap (λ b. b && pass_all_told more ts) (passes t p.0) ∙ more_all ts p.1

  more_level : (x : StType-F StType) → has_level unit entries test x ≡ true → has_level unit entries more x ≡ true
  more_level (StType-F.Elementary e) h = refl
  more_level (StType-F.Enumeration n) h = refl
  more_level (StType-F.Reference c) h = refl
  more_level (StType-F.Interface k) h = refl
  more_level (StType-F.Array low high of) h = by (is_zero (count_to (high -ℤ low))) h
    where
      by : (b : Bool) → (b || test of) ≡ true → (b || more of) ≡ true
      by true h = refl
      by false h = passes of h
  more_level (StType-F.Structure n) h = more_all (field_kinds unit entries n) h
  more_level (StType-F.Instance c) h = absurd (true≢false (sym h))

-- ---- the laws

module _ (unit : Scope) (entries : List (TypeDecl ℕ)) where
  more_steps : (n : ℕ) (t : StType) → takes_steps unit entries n t ≡ true → takes_steps unit entries (suc n) t ≡ true
  more_steps zero t h = absurd (true≢false (sym h))
  more_steps (suc n) t h = more_level unit entries (takes_steps unit entries n) (takes_steps unit entries (suc n)) (more_steps n) (out-StType t) h

  same_worths : (n : ℕ) (s : Scope) (t : StType) (i : Option (Initial ℕ)) → takes_steps unit entries n t ≡ true → worth_within unit entries (suc n) s t i ≡ worth_within unit entries n s t i
  same_worths zero s t i h = absurd (true≢false (sym h))
  same_worths (suc n) s t i h = same_level unit entries (worth_within unit entries n) (worth_within unit entries (suc n)) (takes_steps unit entries n) (same_worths n) s t (out-StType t) i h

  no_worths_within : (n : ℕ) (s : Scope) (t : StType) (i : Option (Initial ℕ)) → takes_steps unit entries n t ≡ false → worth_within unit entries n s t i ≡ None
  no_worths_within zero s t i h = refl
  no_worths_within (suc n) s t i h = none_level unit entries (worth_within unit entries n) (worth_within unit entries n) (takes_steps unit entries n) (no_worths_within n) s t (out-StType t) i h

  pub step_laws : StepLaws unit entries
  step_laws = record { none = no_worths_within; same = same_worths; more = more_steps }
