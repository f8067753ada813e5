-- What is carried to a place is the old value at its old path.
use Rattle.std.proofs.Common.{◌≡◌, ◌<◌, ℕ, zero, suc, ℤ, Bool, true, false, List, [], ◌∷◌, Option, Some, None, refl, sym, ap, ap₂, ◌∙◌, subst, arith}
use Rattle.std.specs.Prelude.{if◌then◌else◌, ◌&&◌, option_map}
use Rattle.std.proofs.lemmas.Bool.{lt-ltb}
use Rattle.plc_text.specs.Words.{same}
use Rattle.st_tree.specs.declared.path.Path.{Path}
use Rattle.st_tree.specs.declared.path.Step.{Step}
use Rattle.st_tree.specs.declared.path.Step.TheVariants as step
use Rattle.st_values.specs.Program.{Program}
use Rattle.st_values.specs.Value.{Value, array, structure, instance, Values, no_values, value_then, Members, no_members, member_then, Store, ◌>>=◌, element, member, place_of_index, part, value_at}
use Rattle.st_values.specs.Shape.{Shape, Array, Structure, Instance, Fields, no_fields, field_then, field, element_shape, shape_part, shape_at, region_shape}
use Rattle.st_meaning.specs.st_frame.Good.{Fit, FitAll, Good}
use Rattle.st_change.specs.From.{Pairs, old_name, structure_pairs, class_pairs, Way, by_name, by_index, field_name, field_number, field_named, part_by, way_of, step_of, ways_of, steps_of, old_way, old_ways, old_region}
use Rattle.st_change.specs.Carry.{Old, old_element, old_field, field_before, variable_before, before_by}
use Rattle.st_change.specs.CarryLaws.{OldFits}
use Rattle.st_change.specs.Change.{region_before}
use Rattle.st_change.specs.Laws.{has_field, Distinct, DistinctFields, NamesDiffer}
use Rattle.st_change.proofs.Carried.{PartsFit, old_element_fits, structure_fits, instance_fits}
use Rattle.st_change.proofs.Names.{same-true, eq-same, then_is, then_some}
use Rattle.st_change.proofs.Paths.{part_distinct}
use Rattle.st_change.specs.carry_places.Places.{are_alike, alike_along, old_part, old_along, old_at, ComesFrom}

abbrev pub shape_of_old : Shape × Value → Shape
shape_of_old a = a.0

abbrev pub value_of_old : Shape × Value → Value
value_of_old a = a.1

-- ---- a step of a shape as a way

pub field_there : (fs : Fields) (k : ℕ) (sh : Shape) → DistinctFields fs → field fs k ≡ Some sh → (n : List ℕ) × (field_name fs k ≡ Some n) × (field_named fs n ≡ Some sh)
field_there no_fields k sh d e = cc
field_there (field_then v x fs) zero sh d e = (v.name, refl, ap (λ b. if b then Some x else field_named fs v.name) (eq-same v.name v.name refl) ∙ e)
field_there (field_then v x fs) (suc k) sh d e =
    let a = field_there fs k sh d.2 e in
    (a.0, a.1, by a.0 a.2 (same v.name a.0) refl)
  where
    named_has : (gs : Fields) (n : List ℕ) → field_named gs n ≡ Some sh → has_field gs n ≡ true
    named_has no_fields n h = cc
    named_has (field_then w y gs) n h = more (same w.name n) (named_has gs n) h
      where
        more : (b : Bool) → (field_named gs n ≡ Some sh → has_field gs n ≡ true) → (if b then Some y else field_named gs n) ≡ Some sh → (if b then true else has_field gs n) ≡ true
        more true k h = refl
        more false k h = k h

    by : (n : List ℕ) → field_named fs n ≡ Some sh → (b : Bool) → same v.name n ≡ b → (if b then Some x else field_named fs n) ≡ Some sh
    by n h false q = h
    by n h true q =
        let y : has_field fs n ≡ false = subst (λ z. has_field fs z ≡ false) (same-true v.name n q) d.0 in
        let z = named_has fs n h in
        cc

-- ---- a way into an old value

-- the way leads to this shape and value, by its step too
record There (sh : Shape) (v : Value) (w : Way) (a : Shape × Value) : Type 0 where
  to : Step
  is_step : step_of sh w ≡ Some to
  by_way : part_by sh w ≡ Some a.0
  shape : shape_part sh to ≡ Some a.0
  value : part v to ≡ Some a.1

pub element_within : (p : Program) (n : ℕ) (sh : Shape) (vs : Values) (k : ℕ) (w : Value) → FitAll p n sh vs → element vs k ≡ Some w → k < n
element_within p zero sh no_values k w h e = cc
element_within p zero sh (value_then v vs) k w h e = absurd h
element_within p (suc n) sh no_values k w h e = absurd h
element_within p (suc n) sh (value_then v vs) zero w h e = omega arith
element_within p (suc n) sh (value_then v vs) (suc k) w h e = let i = element_within p n sh vs k w h.1 e in omega (arith, i)

element_comes : (p : Program) (sh : Shape) (v : Value) (i : ℤ) (a : Shape × Value) → Fit p sh v → old_element (Some (sh, v)) i ≡ Some a → There sh v (by_index i) a
element_comes p (Array low n sh) (array l vs) i a h e =
    let b = then_some (place_of_index low i) (λ k. element vs k >>= λ v. Some (sh, v)) a e in
    let c = then_some (element vs b.0) (λ v. Some (sh, v)) a b.2 in
    let d : (sh, c.0) ≡ a = let x = c.2 in cc in
    let small = element_within p n sh vs b.0 c.0 h.1 c.1 in
    let there : element_shape n sh (place_of_index low i) ≡ Some a.0 =
    ap (element_shape n sh) b.1 ∙ ap (λ t. if t then Some sh else None) (lt-ltb b.0 n small) ∙ ap (λ x. Some (shape_of_old x)) d in
    record {
      to = step.Element i;
      is_step = refl;
      by_way = there;
      shape = there;
      value =
          ap (λ m. place_of_index m i >>= λ k. element vs k) (sym h.0)
          ∙ then_is (place_of_index low i) (λ k. element vs k) b.0 a.1 b.1 (c.1 ∙ ap (λ x. Some (value_of_old x)) d);
    }
element_comes p sh v i a h e = cc

field_comes : (fs : Fields) (ms : Members) (f : List ℕ) (a : Shape × Value) → old_field fs ms f ≡ Some a
    → (k : ℕ) × (field_number fs f ≡ Some k) × (field fs k ≡ Some a.0) × (field_named fs f ≡ Some a.0) × (member ms k ≡ Some a.1)
field_comes no_fields ms f a e = cc
field_comes (field_then v sh fs) no_members f a e = cc
field_comes (field_then v sh fs) (member_then n w ms) f a e = by (same v.name f) (field_comes fs ms f a) e
  where
    by : (b : Bool) → (old_field fs ms f ≡ Some a → (k : ℕ) × (field_number fs f ≡ Some k) × (field fs k ≡ Some a.0) × (field_named fs f ≡ Some a.0) × (member ms k ≡ Some a.1))
        → (if b then Some (sh, w) else old_field fs ms f) ≡ Some a
        → (k : ℕ) × ((if b then Some 0 else option_map suc (field_number fs f)) ≡ Some k) × (field (field_then v sh fs) k ≡ Some a.0) × ((if b then Some sh else field_named fs f) ≡ Some a.0) × (member (member_then n w ms) k ≡ Some a.1)
    by true go h =
        let d : (sh, w) ≡ a = cc in
        (0, refl, ap (λ x. Some (shape_of_old x)) d, ap (λ x. Some (shape_of_old x)) d, ap (λ x. Some (value_of_old x)) d)
    by false go h = let i = go h in (suc i.0, ap (option_map suc) i.1, i.2, i.3, i.4)

tested : (b : Bool) (o : Old) (a : Shape × Value) → (if b then o else None) ≡ Some a → o ≡ Some a
tested true o a e = e
tested false o a e = cc

structure_comes : (name : List ℕ) (sh : Shape) (v : Value) (f : List ℕ) (a : Shape × Value) → field_before name (Some (sh, v)) f ≡ Some a → There sh v (by_name f) a
structure_comes name (Structure n fs) (structure m ms) f a e =
    let b = field_comes fs ms f a (tested (same n name) (old_field fs ms f) a e) in
    record { to = step.Field b.0; is_step = ap (option_map step.Field) b.1; by_way = b.3; shape = b.2; value = b.4 }
structure_comes name sh v f a e = cc

instance_comes : (name : List ℕ) (sh : Shape) (v : Value) (f : List ℕ) (a : Shape × Value) → variable_before name (Some (sh, v)) f ≡ Some a → There sh v (by_name f) a
instance_comes name (Instance c n fs) (instance m ms) f a e =
    let b = field_comes fs ms f a (tested (same n name) (old_field fs ms f) a e) in
    record { to = step.Field b.0; is_step = ap (option_map step.Field) b.1; by_way = b.3; shape = b.2; value = b.4 }
instance_comes name sh v f a e = cc

-- where a part of an old value is found, its shape is like the new one
element_alike : (low : ℤ) (n : ℕ) (x sh : Shape) (v : Value) (i : ℤ) (a : Shape × Value) → old_element (Some (sh, v)) i ≡ Some a → are_alike (Array low n x) sh ≡ true
element_alike low n x (Array m k y) v i a e = refl
element_alike low n x sh v i a e = cc

is_true : (b : Bool) (o : Old) (a : Shape × Value) → (if b then o else None) ≡ Some a → b ≡ true
is_true true o a e = refl
is_true false o a e = cc

structure_alike : (name : List ℕ) (fs : Fields) (sh : Shape) (v : Value) (f : List ℕ) (a : Shape × Value) → field_before name (Some (sh, v)) f ≡ Some a → are_alike (Structure name fs) sh ≡ true
structure_alike name fs (Structure n gs) (structure m ms) f a e = is_true (same n name) (old_field gs ms f) a e
structure_alike name fs sh v f a e = cc

instance_alike : (c : ℕ) (name : List ℕ) (fs : Fields) (sh : Shape) (v : Value) (f : List ℕ) (a : Shape × Value) → variable_before name (Some (sh, v)) f ≡ Some a → are_alike (Instance c name fs) sh ≡ true
instance_alike c name fs (Instance d n gs) (instance m ms) f a e = is_true (same n name) (old_field gs ms f) a e
instance_alike c name fs sh v f a e = cc

before_some : (part : List ℕ → Old) (o : Option (List ℕ)) (a : Shape × Value) → before_by part o ≡ Some a → (f : List ℕ) × (o ≡ Some f) × (part f ≡ Some a)
before_some part None a e = cc
before_some part (Some f) a e = (f, refl, e)

-- ---- one step

module _ (old new : Program) where
  -- a step of a new shape, as a way, the way that it had before, and where this leads in an old value
  record Comes (sh x osh : Shape) (ov : Value) (s : Step) (a : Shape × Value) : Type 0 where
    way : Way
    from : Way
    is_way : way_of sh s ≡ Some way
    way_part : part_by sh way ≡ Some x
    is_from : old_way old new sh way ≡ Some from
    there : There osh ov from a
    alike : are_alike sh osh ≡ true

  -- a field of a structure or of an instance, where its variables come from these
  field_way : (sh x osh : Shape) (ov : Value) (fs : Fields) (k : ℕ) (ps : Pairs) (part : List ℕ → Old) (a : Shape × Value) → DistinctFields fs → field fs k ≡ Some x
      → ((n : List ℕ) → field_name fs k ≡ Some n → way_of sh (step.Field k) ≡ Some (by_name n))
      → ((n : List ℕ) → field_named fs n ≡ Some x → part_by sh (by_name n) ≡ Some x)
      → ((n f : List ℕ) → old_name ps n ≡ Some f → old_way old new sh (by_name n) ≡ Some (by_name f))
      → ((f : List ℕ) → part f ≡ Some a → There osh ov (by_name f) a)
      → ((f : List ℕ) → part f ≡ Some a → are_alike sh osh ≡ true)
      → before_by part (field_name fs k >>= old_name ps) ≡ Some a → Comes sh x osh ov (step.Field k) a
  field_way sh x osh ov fs k ps part a d e ways parts olds comes likes h =
      let n = field_there fs k x d e in
      let b = before_some part (field_name fs k >>= old_name ps) a h in
      let named : old_name ps n.0 ≡ Some b.0 = sym (ap (λ o. o >>= old_name ps) n.1) ∙ b.1 in
      record {
        way = by_name n.0;
        from = by_name b.0;
        is_way = ways n.0 n.1;
        way_part = parts n.0 n.2;
        is_from = olds n.0 b.0 named;
        there = comes b.0 b.2;
        alike = likes b.0 b.2;
      }

  step_comes : (s : Step) (sh x osh : Shape) (ov : Value) (a : Shape × Value) → Distinct sh → Fit old osh ov → shape_part sh s ≡ Some x → old_part old new sh (Some (osh, ov)) s ≡ Some a → Comes sh x osh ov s a
  step_comes (step.Element i) (Array low n y) x osh ov a d g e h =
      record { way = by_index i; from = by_index i; is_way = refl; way_part = e; is_from = refl; there = element_comes old osh ov i a g h; alike = element_alike low n y osh ov i a h }
  step_comes (step.Field k) (Structure name fs) x osh ov a d g e h =
      field_way (Structure name fs) x osh ov fs k (structure_pairs old new name) (field_before name (Some (osh, ov))) a d e
      (λ n q. ap (option_map by_name) q) (λ n q. q) (λ n f q. ap (option_map by_name) q) (λ f q. structure_comes name osh ov f a q) (λ f q. structure_alike name fs osh ov f a q) h
  step_comes (step.Field k) (Instance c name fs) x osh ov a d g e h =
      field_way (Instance c name fs) x osh ov fs k (class_pairs old new c) (variable_before name (Some (osh, ov))) a d e
      (λ n q. ap (option_map by_name) q) (λ n q. q) (λ n f q. ap (option_map by_name) q) (λ f q. instance_comes name osh ov f a q) (λ f q. instance_alike c name fs osh ov f a q) h
  step_comes s sh x osh ov a d g e h = cc

  before_fits : (part : List ℕ → Old) (o : Option (List ℕ)) → PartsFit old part → OldFits old (before_by part o)
  before_fits part None f = tt
  before_fits part (Some o) f = f.by o

  pub part_fits : (s : Step) (sh : Shape) (o : Old) → OldFits old o → OldFits old (old_part old new sh o s)
  part_fits (step.Element i) (Array low n sh) o f = old_element_fits old o i f
  part_fits (step.Field k) (Structure name fs) o f = before_fits (field_before name o) (field_name fs k >>= old_name (structure_pairs old new name)) (structure_fits old name o f)
  part_fits (step.Field k) (Instance c name fs) o f = before_fits (variable_before name o) (field_name fs k >>= old_name (class_pairs old new c)) (instance_fits old name o f)
  part_fits s sh o f = tt

  -- ---- many steps

  -- nothing comes from nothing
  none_part : (s : Step) (sh : Shape) → old_part old new sh None s ≡ None
  none_part (step.Element i) (Array low n sh) = refl
  none_part (step.Field k) (Structure name fs) = by (field_name fs k >>= old_name (structure_pairs old new name))
    where
      by : (o : Option (List ℕ)) → before_by (field_before name None) o ≡ None
      by None = refl
      by (Some f) = refl
  none_part (step.Field k) (Instance c name fs) = by (field_name fs k >>= old_name (class_pairs old new c))
    where
      by : (o : Option (List ℕ)) → before_by (variable_before name None) o ≡ None
      by None = refl
      by (Some f) = refl
  none_part s sh = refl

  none_along : (ss : List Step) (sh : Shape) → old_along old new sh None ss ≡ None
  none_along [] sh = refl
  none_along (s ∷ ss) sh = by (λ x. none_along ss x) (shape_part sh s)
    where
      by : ((x : Shape) → old_along old new x None ss ≡ None) → (o : Option Shape) → (o >>= λ x. old_along old new x (old_part old new sh None s) ss) ≡ None
      by h None = refl
      by h (Some x) = ap (λ a. old_along old new x a ss) (none_part s sh) ∙ h x

  from_some : (ss : List Step) (sh : Shape) (o : Old) (a : Shape × Value) → old_along old new sh o ss ≡ Some a → (b : Shape × Value) × (o ≡ Some b)
  from_some ss sh None a e = let h = none_along ss sh in cc
  from_some ss sh (Some b) a e = (b, refl)

  -- steps into a new shape, as ways, those that they had before, and where these lead in an old value
  record Origin (sh osh : Shape) (ov : Value) (ss : List Step) (a : Shape × Value) : Type 0 where
    ways : List Way
    froms : List Way
    to : List Step
    are_ways : ways_of sh ss ≡ Some ways
    are_froms : old_ways old new sh ways ≡ Some froms
    are_steps : steps_of osh froms ≡ Some to
    shape : shape_at osh to ≡ Some a.0
    value : value_at ov to ≡ Some a.1
    alike : alike_along (Some sh) (Some osh) ss to ≡ true

  steps_come : (ss : List Step) (sh osh : Shape) (ov : Value) (a : Shape × Value) → Distinct sh → Fit old osh ov → old_along old new sh (Some (osh, ov)) ss ≡ Some a → Origin sh osh ov ss a
  steps_come [] sh osh ov a d g e =
      let q : (osh, ov) ≡ a = cc in
      record { ways = []; froms = []; to = []; are_ways = refl; are_froms = refl; are_steps = refl; shape = ap (λ x. Some (shape_of_old x)) q; value = ap (λ x. Some (value_of_old x)) q; alike = refl }
  steps_come (s ∷ ss) sh osh ov a d g e =
      let b = then_some (shape_part sh s) (λ x. old_along old new x (old_part old new sh (Some (osh, ov)) s) ss) a e in
      let c = from_some ss b.0 (old_part old new sh (Some (osh, ov)) s) a b.2 in
      let k = step_comes s sh b.0 osh ov c.0 d g b.1 c.1 in
      let f : Fit old c.0.0 c.0.1 = subst (OldFits old) c.1 (part_fits s sh (Some (osh, ov)) g) in
      let below : old_along old new b.0 (Some c.0) ss ≡ Some a = ap (λ o. old_along old new b.0 o ss) (sym c.1) ∙ b.2 in
      let i = steps_come ss b.0 c.0.0 c.0.1 a (part_distinct sh b.0 k.way d k.way_part) f below in
      record {
        ways = k.way ∷ i.ways;
        froms = k.from ∷ i.froms;
        to = k.there.to ∷ i.to;
        are_ways = then_is (way_of sh s) _ k.way (k.way ∷ i.ways) k.is_way (then_is (part_by sh k.way) _ b.0 (k.way ∷ i.ways) k.way_part (then_is (ways_of b.0 ss) _ i.ways (k.way ∷ i.ways) i.are_ways refl));
        are_froms =
            then_is (old_way old new sh k.way) _ k.from (k.from ∷ i.froms) k.is_from
            (then_is (part_by sh k.way) _ b.0 (k.from ∷ i.froms) k.way_part (then_is (old_ways old new b.0 i.ways) _ i.froms (k.from ∷ i.froms) i.are_froms refl));
        are_steps =
            then_is (step_of osh k.from) _ k.there.to (k.there.to ∷ i.to) k.there.is_step
            (then_is (part_by osh k.from) _ c.0.0 (k.there.to ∷ i.to) k.there.by_way (then_is (steps_of c.0.0 i.froms) _ i.to (k.there.to ∷ i.to) i.are_steps refl));
        shape = then_is (shape_part osh k.there.to) _ c.0.0 a.0 k.there.shape i.shape;
        value = then_is (part ov k.there.to) _ c.0.1 a.1 k.there.value i.value;
        alike = ap₂ (λ x y. are_alike sh osh && alike_along x y ss i.to) b.1 k.there.shape ∙ ap₂ (λ x y. x && y) k.alike i.alike;
      }

  -- ---- paths

  pub origin : (before : Store) (q : Path) (a : Shape × Value) → NamesDiffer new → Good old before → old_at old new before q ≡ Some a → ComesFrom old new before q a
  origin before q a differ good e =
      let s = then_some (region_shape new q.region) (λ sh. old_along old new sh (region_before old new before q.region) q.steps) a e in
      let o = from_some q.steps s.0 (region_before old new before q.region) a s.2 in
      let b = then_some (old_region old new q.region) (λ r. region_shape old r >>= λ sh. member before r >>= λ v. Some (sh, v)) o.0 o.1 in
      let c = then_some (region_shape old b.0) (λ sh. member before b.0 >>= λ v. Some (sh, v)) o.0 b.2 in
      let d = then_some (member before b.0) (λ v. Some (c.0, v)) o.0 c.2 in
      let h = (good.each b.0).by c.0 c.1 in
      let is : h.0 ≡ d.0 = let x = h.1 in let y = d.1 in cc in
      let fits : Fit old c.0 d.0 = subst (Fit old c.0) is h.2 in
      let from : region_before old new before q.region ≡ Some (c.0, d.0) = o.1 ∙ sym d.2 in
      let i = steps_come q.steps s.0 c.0 d.0 a (differ.shapes q.region s.0 s.1) fits (ap (λ x. old_along old new s.0 x q.steps) (sym from) ∙ s.2) in
      let r : Path = record { region = b.0; steps = i.to } in
      record {
        path = r;
        is_old =
            then_is (old_region old new q.region) _ b.0 r b.1
            (then_is (region_shape new q.region) _ s.0 r s.1
            (then_is (region_shape old b.0) _ c.0 r c.1
            (then_is (ways_of s.0 q.steps) _ i.ways r i.are_ways
            (then_is (old_ways old new s.0 i.ways) _ i.froms r i.are_froms (then_is (steps_of c.0 i.froms) _ i.to r i.are_steps refl)))));
        shape = then_is (region_shape old b.0) _ c.0 a.0 c.1 i.shape;
        value = then_is (member before b.0) _ d.0 a.1 d.1 i.value;
        alike = ap₂ (λ x y. alike_along x y q.steps i.to) s.1 c.1 ∙ i.alike;
      }
