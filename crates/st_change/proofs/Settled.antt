-- What is carried to its own place is what was there.
use Rattle.std.proofs.Common.{◌≡◌, ℕ, zero, suc, ◌+◌, ℤ, pos, Bool, true, false, List, [], ◌∷◌, Option, Some, None, refl, sym, ap, ap₂, ◌∙◌, subst, arith}
use Rattle.std.specs.Prelude.{if◌then◌else◌, ◌&&◌, ◌||◌, not, ◌+ℤ◌, ◌-ℤ◌, option_map, slice_get, nat_lt}
use Rattle.std.proofs.lemmas.Int.{ints}
use Rattle.plc_text.specs.Words.{same}
use Rattle.st_types.specs.Elem.{name as elem_name}
use Rattle.st_types.specs.declared.st_type.StType.{StType}
use Rattle.st_types.specs.declared.st_type.StType.TheVariants as type
use Rattle.st_tree.specs.declared.path.Step.{Step}
use Rattle.st_tree.specs.declared.path.Step.TheVariants as step
use Rattle.st_values.specs.Program.{Variable, Program}
use Rattle.st_values.specs.Value.{Path, Value, number, reference, array, structure, instance, Values, no_values, value_then, Members, no_members, member_then, natural, place_of_index, element}
use Rattle.st_values.specs.Shape.{Shape, Elementary, Enumeration, Reference, Interface, Array, Structure, Instance, Fields, no_fields, field_then, field, element_shape, same_names, shape_part, shape_at, region_shape, path_shape}
use Rattle.st_meaning.specs.st_frame.Good.{Held, Fit, FitAll, FitEach}
use Rattle.st_change.specs.From.{Pairs, old_name, new_name, structure_pairs, class_pairs, Way, by_name, by_index, field_name, field_named, part_by, way_of, ways_of, steps_of, region_name, region_pairs, new_way, new_ways, new_region, new_path}
use Rattle.st_change.specs.Carry.{Old, old_element, old_field, field_before, variable_before, before_by, shape_conforms, checked, relocated, stays, carry, carry_elements, carry_members}
use Rattle.st_change.specs.CarryLaws.{Settled, FieldsSettled, Settles, CarryLaws}
use Rattle.st_change.specs.Laws.{has_field, Distinct, DistinctFields}
use Rattle.st_change.proofs.Carried.{carry_fits, store_good}
use Rattle.st_change.proofs.Names.{same-true, eq-same, then_is, then_some, passed, old_new, region_number_of}
use Rattle.st_change.proofs.Paths.{ways_steps, part_distinct}

-- ---- names are themselves

pub same_self : (n : List ℕ) → same n n ≡ true
same_self n = eq-same n n refl

pub names_self : (ns : List (List ℕ)) → same_names ns ns ≡ true
names_self [] = refl
names_self (n ∷ ns) = ap (λ b. b && same_names ns ns) (same_self n) ∙ names_self ns

-- ---- fields by name

-- a field that a list of fields names
old_has : (fs : Fields) (ms : Members) (f : List ℕ) (a : Shape × Value) → old_field fs ms f ≡ Some a → has_field fs f ≡ true
old_has no_fields ms f a e = cc
old_has (field_then v sh fs) no_members f a e = cc
old_has (field_then v sh fs) (member_then n w ms) f a e = by (same v.name f) (old_has fs ms f a) e
  where
    by : (b : Bool) → (old_field fs ms f ≡ Some a → has_field fs f ≡ true) → (if b then Some (sh, w) else old_field fs ms f) ≡ Some a → (if b then true else has_field fs f) ≡ true
    by true k h = refl
    by false k h = k h

-- what the rest of a list names the list names too
old_later : (v : Variable) (sh : Shape) (fs : Fields) (n : List ℕ) (w : Value) (ms : Members) (f : List ℕ) (a : Shape × Value) → has_field fs v.name ≡ false → old_field fs ms f ≡ Some a → old_field (field_then v sh fs) (member_then n w ms) f ≡ Some a
old_later v sh fs n w ms f a d e = by (same v.name f) refl
  where
    by : (b : Bool) → same v.name f ≡ b → (if b then Some (sh, w) else old_field fs ms f) ≡ Some a
    by false q = e
    by true q =
        let x : has_field fs f ≡ false = subst (λ y. has_field fs y ≡ false) (same-true v.name f q) d in
        let y = old_has fs ms f a e in
        cc

-- ---- ways of one shape

field_there : (fs : Fields) (k : ℕ) (sh : Shape) → DistinctFields fs → field fs k ≡ Some sh → (n : List ℕ) × (field_name fs k ≡ Some n) × (field_named fs n ≡ Some sh)
field_there no_fields k sh d e = cc
field_there (field_then v x fs) zero sh d e = (v.name, refl, ap (λ b. if b then Some x else field_named fs v.name) (same_self v.name) ∙ e)
field_there (field_then v x fs) (suc k) sh d e =
    let a = field_there fs k sh d.2 e in
    (a.0, a.1, by a.0 a.2 (same v.name a.0) refl)
  where
    named_has : (gs : Fields) (n : List ℕ) → field_named gs n ≡ Some sh → has_field gs n ≡ true
    named_has no_fields n h = cc
    named_has (field_then w y gs) n h = more (same w.name n) (named_has gs n) h
      where
        more : (b : Bool) → (field_named gs n ≡ Some sh → has_field gs n ≡ true) → (if b then Some y else field_named gs n) ≡ Some sh → (if b then true else has_field gs n) ≡ true
        more true k h = refl
        more false k h = k h

    by : (n : List ℕ) → field_named fs n ≡ Some sh → (b : Bool) → same v.name n ≡ b → (if b then Some x else field_named fs n) ≡ Some sh
    by n h false q = h
    by n h true q =
        let y : has_field fs n ≡ false = subst (λ z. has_field fs z ≡ false) (same-true v.name n q) d.0 in
        let z = named_has fs n h in
        cc

way_there : (sh : Shape) (s : Step) (part : Shape) → Distinct sh → shape_part sh s ≡ Some part → (w : Way) × (way_of sh s ≡ Some w) × (part_by sh w ≡ Some part)
way_there (Array low n sh) (step.Element i) part d e = (by_index i, refl, e)
way_there (Array low n sh) (step.Field k) part d e = cc
way_there (Structure name fs) (step.Field k) part d e = let a = field_there fs k part d e in (by_name a.0, ap (option_map by_name) a.1, a.2)
way_there (Structure name fs) (step.Element i) part d e = cc
way_there (Instance c name fs) (step.Field k) part d e = let a = field_there fs k part d e in (by_name a.0, ap (option_map by_name) a.1, a.2)
way_there (Instance c name fs) (step.Element i) part d e = cc
way_there (Elementary x) s part d e = cc
way_there (Enumeration name vs) s part d e = cc
way_there (Reference c name) s part d e = cc
way_there (Interface i name) s part d e = cc

ways_there : (ss : List Step) (sh part : Shape) → Distinct sh → shape_at sh ss ≡ Some part → (ws : List Way) × (ways_of sh ss ≡ Some ws)
ways_there [] sh part d e = ([], refl)
ways_there (s ∷ ss) sh part d e =
    let a = then_some (shape_part sh s) _ part e in
    let b = way_there sh s a.0 d a.1 in
    let c = ways_there ss a.0 part (part_distinct sh a.0 b.0 d b.2) a.2 in (
      b.0 ∷ c.0,
      then_is (way_of sh s) _ b.0 (b.0 ∷ c.0) b.1
          (then_is (part_by sh b.0) _ a.0 (b.0 ∷ c.0) b.2 (then_is (ways_of a.0 ss) _ c.0 (b.0 ∷ c.0) c.1 refl)),
    )

module _ (p : Program) (settles : Settles p) where
  -- ---- a path stays where it is

  settled_named : (ps : Pairs) (fs : Fields) (n : List ℕ) (part : Shape) → FieldsSettled p ps fs → field_named fs n ≡ Some part → (old_name ps n ≡ Some n) × Settled p part
  settled_named ps no_fields n part h e = cc
  settled_named ps (field_then v x fs) n part h e = by (same v.name n) refl (settled_named ps fs n part h.4) e
    where
      by : (b : Bool) → same v.name n ≡ b → (field_named fs n ≡ Some part → (old_name ps n ≡ Some n) × Settled p part) → (if b then Some x else field_named fs n) ≡ Some part → (old_name ps n ≡ Some n) × Settled p part
      by true q k f =
          let d = same-true v.name n q in
          let y : x ≡ part = cc in
          (subst (λ m. old_name ps m ≡ Some m) d h.0, subst (Settled p) y h.3)
      by false q k f = k f

  element_settled : (n : ℕ) (x part : Shape) (o : Option ℕ) → Settled p x → element_shape n x o ≡ Some part → Settled p part
  element_settled n x part None h e = cc
  element_settled n x part (Some k) h e = let a = passed (nat_lt k n) x part e in subst (Settled p) a.1 h

  way_stays : (sh : Shape) (w : Way) (part : Shape) → Settled p sh → part_by sh w ≡ Some part → (new_way p p sh w ≡ Some w) × Settled p part
  way_stays (Array low n sh) (by_index i) part h e = (refl, element_settled n sh part (place_of_index low i) h e)
  way_stays (Array low n sh) (by_name f) part h e = cc
  way_stays (Structure name fs) (by_index i) part h e = cc
  way_stays (Structure name fs) (by_name f) part h e =
      let a = settled_named (structure_pairs p p name) fs f part h e in
      (ap (option_map by_name) (old_new (structure_pairs p p name) f f a.0), a.1)
  way_stays (Instance c name fs) (by_index i) part h e = cc
  way_stays (Instance c name fs) (by_name f) part h e =
      let a = settled_named (class_pairs p p c) fs f part h e in
      (ap (option_map by_name) (old_new (class_pairs p p c) f f a.0), a.1)
  way_stays (Elementary x) w part h e = cc
  way_stays (Enumeration name vs) w part h e = cc
  way_stays (Reference c name) w part h e = cc
  way_stays (Interface i name) w part h e = cc

  ways_stay : (ss : List Step) (sh : Shape) (ws : List Way) → Settled p sh → ways_of sh ss ≡ Some ws → new_ways p p sh ws ≡ Some ws
  ways_stay [] sh ws h e = let d : [] ≡ ws = cc in subst (λ x. new_ways p p sh x ≡ Some x) d refl
  ways_stay (s ∷ ss) sh ws h e =
      let a = then_some (way_of sh s) _ ws e in
      let b = then_some (part_by sh a.0) _ ws a.2 in
      let c = then_some (ways_of b.0 ss) _ ws b.2 in
      let d : a.0 ∷ c.0 ≡ ws = let x = c.2 in cc in
      let k = way_stays sh a.0 b.0 h b.1 in
      subst (λ x. new_ways p p sh x ≡ Some x) d
      (then_is (new_way p p sh a.0) _ a.0 (a.0 ∷ c.0) k.0
      (then_is (part_by sh a.0) _ b.0 (a.0 ∷ c.0) b.1
      (then_is (new_ways p p b.0 c.0) _ c.0 (a.0 ∷ c.0) (ways_stay ss b.0 c.0 k.1 c.1) refl)))

  region_named : (r : ℕ) (sh : Shape) → region_shape p r ≡ Some sh → (name : List ℕ) × (region_name p r ≡ Some name)
  region_named r sh e = let a = then_some (slice_get p.regions r) _ sh e in (a.0.variable.name, ap (option_map (λ x. x.variable.name)) a.1)

  region_stays : (r : ℕ) (sh : Shape) → region_shape p r ≡ Some sh → new_region p p r ≡ Some r
  region_stays r sh e =
      let n = region_named r sh e in
      then_is (region_name p r) _ n.0 r n.1
      (then_is (new_name (region_pairs p p) n.0) _ n.0 r (old_new (region_pairs p p) n.0 n.0 (settles.regions r n.0 n.1))
      (region_number_of p.regions r n.0 settles.differ.regions n.1))

  path_stays : (q : Path) (x : Shape) → path_shape p q ≡ Some x → new_path p p q ≡ Some q
  path_stays q x e =
      let a = then_some (region_shape p q.region) _ x e in
      let d = settles.differ.shapes q.region a.0 a.1 in
      let h = settles.shapes q.region a.0 a.1 in
      let w = ways_there q.steps a.0 x d a.2 in
      then_is (new_region p p q.region) _ q.region q (region_stays q.region a.0 a.1)
      (then_is (region_shape p q.region) _ a.0 q a.1
      (then_is (region_shape p q.region) _ a.0 q a.1
      (then_is (ways_of a.0 q.steps) _ w.0 q w.1
      (then_is (new_ways p p a.0 w.0) _ w.0 q (ways_stay q.steps a.0 w.0 h w.1)
      (then_is (steps_of a.0 w.0) _ q.steps q (ways_steps q.steps w.0 a.0 d w.1) refl)))))

  held_stays : (t : StType) (o : Option Path) → Held p t o → relocated p p t o ≡ o
  held_stays t None h = refl
  held_stays t (Some q) h =
      ap (checked p t) (path_stays q (Instance h.class h.name h.fields) h.there)
      ∙ ap (λ b. if b then Some q else None) (ap (shape_conforms p t) h.there ∙ h.meets)

  -- ---- a value stays what it is

  module _ (keeping : Bool) where
    unmarked : (v : Variable) → v.marks.init_on_change ≡ false → v.marks.no_copy ≡ false → stays p p keeping v ≡ false
    unmarked v a b = ap₂ (λ x y. x || (y && not keeping)) a b

    -- the part of the old value at an index
    index_part : (low l : ℤ) (n : ℕ) (sh : Shape) (all : Values) (j : ℕ) (i : ℤ) (v : Value) → i ≡ low +ℤ pos j → element all j ≡ Some v → old_element (Some (Array low n sh, array l all)) i ≡ Some (sh, v)
    index_part low l n sh all j i v e f =
        let d : i -ℤ low ≡ pos j = omega (arith, ints) in
        then_is (place_of_index low i) _ j (sh, v) (ap natural d) (then_is (element all j) _ v (sh, v) f refl)

    -- these are the elements from number j on
    record Follows (all vs : Values) (j : ℕ) : Type 0 where
      by : (k : ℕ) (v : Value) → element vs k ≡ Some v → element all (j + k) ≡ Some v

    next_follows : (all : Values) (v : Value) (vs : Values) (j : ℕ) → Follows all (value_then v vs) j → Follows all vs (suc j)
    next_follows all v vs j h = record { by = λ k w e. let q : j + suc k ≡ suc j + k = omega arith in subst (λ m. element all m ≡ Some w) q (h.by (suc k) w e) }

    first_follows : (all : Values) (v : Value) (vs : Values) (j : ℕ) → Follows all (value_then v vs) j → element all j ≡ Some v
    first_follows all v vs j h = let q : j + 0 ≡ j = omega arith in subst (λ m. element all m ≡ Some v) q (h.by 0 v refl)

    -- each field of the list is found by its name in the whole
    record Finds (part : List ℕ → Old) (fs : Fields) (ms : Members) : Type 0 where
      by : (f : List ℕ) (a : Shape × Value) → old_field fs ms f ≡ Some a → part f ≡ Some a

    next_finds : (part : List ℕ → Old) (v : Variable) (sh : Shape) (fs : Fields) (n : List ℕ) (w : Value) (ms : Members) → has_field fs v.name ≡ false → Finds part (field_then v sh fs) (member_then n w ms) → Finds part fs ms
    next_finds part v sh fs n w ms d h = record { by = λ f a e. h.by f a (old_later v sh fs n w ms f a d e) }

    mutual
      carry_same : (v held : Value) (sh : Shape) → Settled p sh → Distinct sh → Fit p sh v → Fit p sh held → carry p p keeping sh (Some (sh, v)) held ≡ v
      carry_same (number z) (number h) (Elementary e) k d f g = ap (λ b. number (if b then z else h)) (same_self (elem_name e))
      carry_same (number z) (number h) (Enumeration name vs) k d f g = ap₂ (λ a b. number (if a && b then z else h)) (same_self name) (names_self vs)
      carry_same (reference o) (reference h) (Reference c name) k d f g = ap reference (held_stays (type.Reference c) o f)
      carry_same (reference o) (reference h) (Interface i name) k d f g = ap reference (held_stays (type.Interface i) o f)
      carry_same (array l vs) (array m hs) (Array low n sh) k d f g =
          ap₂ array (sym g.0 ∙ f.0) (elements_same vs hs n low l n sh vs 0 low k d f.1 g.1 (omega (arith, ints)) (record { by = λ i v e. let q : i ≡ 0 + i = omega arith in subst (λ x. element vs x ≡ Some v) q e }))
      carry_same (structure n ms) (structure m hs) (Structure name fs) k d f g =
          ap₂ structure (sym g.0 ∙ f.0)
          (members_same ms hs fs (structure_pairs p p name) (field_before name (Some (Structure name fs, structure n ms))) k d f.1 g.1 (record { by = λ x a e. ap (λ b. if b then old_field fs ms x else None) (same_self name) ∙ e }))
      carry_same (instance n ms) (instance m hs) (Instance c name fs) k d f g =
          ap₂ instance (sym g.0 ∙ f.0)
          (members_same ms hs fs (class_pairs p p c) (variable_before name (Some (Instance c name fs, instance n ms))) k d f.1 g.1 (record { by = λ x a e. ap (λ b. if b then old_field fs ms x else None) (same_self name) ∙ e }))
      carry_same (number z) held (Elementary e) k d f g = absurd g
      carry_same (number z) held (Enumeration name vs) k d f g = absurd g
      carry_same (reference o) held (Reference c name) k d f g = absurd g
      carry_same (reference o) held (Interface i name) k d f g = absurd g
      carry_same (array l vs) held (Array low n sh) k d f g = absurd g
      carry_same (structure n ms) held (Structure name fs) k d f g = absurd g
      carry_same (instance n ms) held (Instance c name fs) k d f g = absurd g
      carry_same v held sh k d f g = absurd f

      elements_same : (vs hs : Values) (n : ℕ) (low l : ℤ) (m : ℕ) (sh : Shape) (all : Values) (j : ℕ) (i : ℤ) → Settled p sh → Distinct sh → FitAll p n sh vs → FitAll p n sh hs → i ≡ low +ℤ pos j → Follows all vs j
          → carry_elements p p keeping sh (Some (Array low m sh, array l all)) i hs ≡ vs
      elements_same no_values no_values zero low l m sh all j i k d f g e h = refl
      elements_same (value_then v vs) hs zero low l m sh all j i k d f g e h = absurd f
      elements_same no_values (value_then w hs) zero low l m sh all j i k d f g e h = absurd g
      elements_same no_values hs (suc n) low l m sh all j i k d f g e h = absurd f
      elements_same (value_then v vs) no_values (suc n) low l m sh all j i k d f g e h = absurd g
      elements_same (value_then v vs) (value_then w hs) (suc n) low l m sh all j i k d f g e h =
          let next : i +ℤ pos 1 ≡ low +ℤ pos (suc j) = omega (arith, ints) in
          ap₂ value_then
          (ap (λ o. carry p p keeping sh o w) (index_part low l m sh all j i v e (first_follows all v vs j h)) ∙ carry_same v w sh k d f.0 g.0)
          (elements_same vs hs n low l m sh all (suc j) (i +ℤ pos 1) k d f.1 g.1 next (next_follows all v vs j h))

      members_same : (ms hs : Members) (fs : Fields) (ps : Pairs) (part : List ℕ → Old) → FieldsSettled p ps fs → DistinctFields fs → FitEach p fs ms → FitEach p fs hs → Finds part fs ms → carry_members p p keeping fs ps part hs ≡ ms
      members_same no_members no_members no_fields ps part k d f g h = refl
      members_same (member_then n v ms) hs no_fields ps part k d f g h = absurd f
      members_same no_members (member_then n w hs) no_fields ps part k d f g h = absurd g
      members_same no_members hs (field_then x sh fs) ps part k d f g h = absurd f
      members_same (member_then n v ms) no_members (field_then x sh fs) ps part k d f g h = absurd g
      members_same (member_then n v ms) (member_then m w hs) (field_then x sh fs) ps part k d f g h =
          let here : old_field (field_then x sh fs) (member_then n v ms) x.name ≡ Some (sh, v) = ap (λ b. if b then Some (sh, v) else old_field fs ms x.name) (same_self x.name) in
          let from : before_by part (old_name ps x.name) ≡ Some (sh, v) = ap (before_by part) k.0 ∙ h.by x.name (sh, v) here in
          let one = if stays p p keeping x then w else carry p p keeping sh (before_by part (old_name ps x.name)) w in
          let it : one ≡ v =
          ap (λ b. if b then w else carry p p keeping sh (before_by part (old_name ps x.name)) w) (unmarked x k.1 k.2)
          ∙ ap (λ o. carry p p keeping sh o w) from
          ∙ carry_same v w sh k.3 d.1 f.1 g.1 in
          let rest = members_same ms hs fs ps part k.4 d.2 f.2 g.2 (next_finds part x sh fs n v ms d.0 h) in
          ap (λ y. member_then y one (carry_members p p keeping fs ps part hs)) (sym g.0 ∙ f.0) ∙ ap₂ (member_then n) it rest

  pub same_region : (keeping : Bool) (r : ℕ) (sh : Shape) (v held : Value) → region_shape p r ≡ Some sh → Fit p sh v → Fit p sh held → carry p p keeping sh (Some (sh, v)) held ≡ v
  same_region keeping r sh v held e f g = carry_same keeping v held sh (settles.shapes r sh e) (settles.differ.shapes r sh e) f g

pub carry_laws : CarryLaws
carry_laws = record {
  fits = λ old new keeping sh o held f g. carry_fits old new keeping held sh o f g;
  store = λ old new keeping before held b g. store_good old new keeping before held b g;
  same = λ p keeping r sh v held h e f g. same_region p h keeping r sh v held e f g;
}
