-- The value at the old path of a place is what is carried to it, where the ways of both are alike.
use Rattle.std.proofs.Common.{◌≡◌, ℕ, suc, ℤ, Bool, true, false, List, [], ◌∷◌, Option, Some, None, refl, sym, ap, ap₂, ◌∙◌, subst}
use Rattle.std.specs.Prelude.{if◌then◌else◌, ◌&&◌, option_map}
use Rattle.plc_text.specs.Words.{same}
use Rattle.st_tree.specs.declared.path.Path.{Path}
use Rattle.st_tree.specs.declared.path.Step.{Step}
use Rattle.st_tree.specs.declared.path.Step.TheVariants as step
use Rattle.st_values.specs.Program.{Program}
use Rattle.st_values.specs.Value.{Value, array, structure, instance, Values, Members, no_members, member_then, Store, ◌>>=◌, element, member, place_of_index, part, value_at, at}
use Rattle.st_values.specs.Shape.{Shape, Array, Structure, Instance, Fields, no_fields, field_then, field, element_shape, shape_part, shape_at, region_shape, path_shape}
use Rattle.st_meaning.specs.st_frame.Good.{Fit, Good}
use Rattle.st_meaning.proofs.st_frame.Values.{element_of}
use Rattle.st_change.specs.From.{Pairs, old_name, structure_pairs, class_pairs, Way, by_name, by_index, field_name, field_number, field_named, part_by, way_of, step_of, ways_of, steps_of, old_way, old_ways, old_region, old_path}
use Rattle.st_change.specs.Carry.{Old, old_field, field_before, variable_before, before_by}
use Rattle.st_change.specs.Change.{region_before}
use Rattle.st_change.specs.Laws.{Distinct, DistinctFields, NamesDiffer}
use Rattle.st_change.proofs.Names.{then_is, then_some, mapped_some}
use Rattle.st_change.proofs.Paths.{part_distinct}
use Rattle.st_change.specs.carry_places.Places.{are_alike, alike_along, old_part, old_along, old_at, ComesFrom}
use Rattle.st_change.proofs.carry_places.Carried.{part_fits}
use Rattle.st_change.proofs.carry_places.Origins.{field_there}

both : (a b : Bool) → (a && b) ≡ true → (a ≡ true) × (b ≡ true)
both true true e = (refl, refl)
both true false e = cc
both false b e = cc

-- ---- a field of an old value, by its number

field_found : (fs : Fields) (ms : Members) (f : List ℕ) (k : ℕ) (x : Shape) (v : Value) → field_number fs f ≡ Some k → field fs k ≡ Some x → member ms k ≡ Some v → (old_field fs ms f ≡ Some (x, v)) × (field_named fs f ≡ Some x)
field_found no_fields ms f k x v e g h = cc
field_found (field_then w y fs) no_members f k x v e g h = cc
field_found (field_then w y fs) (member_then n u ms) f k x v e g h = by (same w.name f) (λ j. field_found fs ms f j x v) e
  where
    by : (b : Bool) → ((j : ℕ) → field_number fs f ≡ Some j → field fs j ≡ Some x → member ms j ≡ Some v → (old_field fs ms f ≡ Some (x, v)) × (field_named fs f ≡ Some x)) → (if b then Some 0 else option_map suc (field_number fs f)) ≡ Some k
        → ((if b then Some (y, u) else old_field fs ms f) ≡ Some (x, v)) × ((if b then Some y else field_named fs f) ≡ Some x)
    by true go q =
        let z : 0 ≡ k = cc in
        let a : y ≡ x = let p = subst (λ j. field (field_then w y fs) j ≡ Some x) (sym z) g in cc in
        let b : u ≡ v = let p = subst (λ j. member (member_then n u ms) j ≡ Some v) (sym z) h in cc in
        (ap₂ (λ i j. Some (i, j)) a b, ap Some a)
    by false go q =
        let a = mapped_some suc (field_number fs f) k q in
        let d = a.2 in
        go a.0 a.1 (subst (λ j. field (field_then w y fs) j ≡ Some x) (sym d) g) (subst (λ j. member (member_then n u ms) j ≡ Some v) (sym d) h)

one_some : {A : Type 0} (a b : A) → Some a ≡ Some b → a ≡ b
one_some a b e = cc

-- ---- one step

module _ (old new : Program) where
  -- the step leads to these parts by its way too, and the old part is what is carried
  record Goes (sh x x' osh y y' : Shape) (ov v : Value) (s : Step) : Type 0 where
    new_part : x' ≡ x
    old_shape : y' ≡ y
    carried : old_part old new sh (Some (osh, ov)) s ≡ Some (y, v)

  element_goes : (low m l : ℤ) (n k : ℕ) (z x x' r y y' : Shape) (vs : Values) (v : Value) (i : ℤ) → m ≡ l → element_shape n z (place_of_index low i) ≡ Some x → element_shape n z (place_of_index low i) ≡ Some x'
      → element_shape k r (place_of_index m i) ≡ Some y → element_shape k r (place_of_index m i) ≡ Some y' → (place_of_index l i >>= λ j. element vs j) ≡ Some v → Goes (Array low n z) x x' (Array m k r) y y' (array l vs) v (step.Element i)
  element_goes low m l n k z x x' r y y' vs v i d a b c e f =
      let p = element_of old k r y (place_of_index m i) c in
      let g : (place_of_index m i >>= λ j. element vs j) ≡ Some v = ap (λ q. place_of_index q i >>= λ j. element vs j) d ∙ f in
      let h = then_some (place_of_index m i) (λ j. element vs j) v g in
      record {
        new_part = one_some x' x (sym b ∙ a);
        old_shape = one_some y' y (sym e ∙ c);
        carried = then_is (place_of_index m i) (λ j. element vs j >>= λ u. Some (r, u)) h.0 (y, v) h.1 (then_is (element vs h.0) (λ u. Some (r, u)) v (y, v) h.2 (ap (λ q. Some (q, v)) p.3));
      }

  -- a field, where it comes from what this finds by name
  field_goes : (fs gs : Fields) (ms : Members) (ps : Pairs) (part : List ℕ → Old) (k j : ℕ) (n f : List ℕ) (x x' y y' : Shape) (v : Value) → DistinctFields fs → ((g : List ℕ) → part g ≡ old_field gs ms g)
      → field_name fs k ≡ Some n → field_named fs n ≡ Some x → old_name ps n ≡ Some f → field_number gs f ≡ Some j → field_named gs f ≡ Some y → field fs k ≡ Some x' → field gs j ≡ Some y' → member ms j ≡ Some v
      → (x' ≡ x) × (y' ≡ y) × (before_by part (field_name fs k >>= old_name ps) ≡ Some (y, v))
  field_goes fs gs ms ps part k j n f x x' y y' v d finds a b c e g h i m =
      let q = field_there fs k x' d h in
      let same_name : q.0 ≡ n = one_some q.0 n (sym q.1 ∙ a) in
      let here : field_named fs n ≡ Some x' = subst (λ t. field_named fs t ≡ Some x') same_name q.2 in
      let found = field_found gs ms f j y' v e i m in
      let is : y' ≡ y = one_some y' y (sym found.1 ∙ g) in (
        one_some x' x (sym here ∙ b),
        is,
        ap (λ o. before_by part (o >>= old_name ps)) a ∙ ap (before_by part) c ∙ finds f ∙ found.0 ∙ ap (λ t. Some (t, v)) is,
      )

  array_step : (s t : Step) (w o : Way) (low : ℤ) (n : ℕ) (z x x' : Shape) (m : ℤ) (k : ℕ) (r y y' : Shape) (l : ℤ) (vs : Values) (v : Value) → m ≡ l → way_of (Array low n z) s ≡ Some w → part_by (Array low n z) w ≡ Some x
      → old_way old new (Array low n z) w ≡ Some o → step_of (Array m k r) o ≡ Some t → part_by (Array m k r) o ≡ Some y → shape_part (Array low n z) s ≡ Some x' → shape_part (Array m k r) t ≡ Some y' → part (array l vs) t ≡ Some v
      → Goes (Array low n z) x x' (Array m k r) y y' (array l vs) v s
  array_step (step.Element i) t w o low n z x x' m k r y y' l vs v g a b c e f p q u =
      let w' : by_index i ≡ w = one_some (by_index i) w a in
      let o' : by_index i ≡ o = one_some (by_index i) o (ap (old_way old new (Array low n z)) w' ∙ c) in
      let t' : step.Element i ≡ t = one_some (step.Element i) t (ap (step_of (Array m k r)) o' ∙ e) in
      element_goes low m l n k z x x' r y y' vs v i g (ap (part_by (Array low n z)) w' ∙ b) p
      (ap (part_by (Array m k r)) o' ∙ f) (ap (shape_part (Array m k r)) t' ∙ q) (ap (part (array l vs)) t' ∙ u)
  array_step (step.Field i) t w o low n z x x' m k r y y' l vs v g a b c e f p q u = cc

  structure_step : (s t : Step) (w o : Way) (name : List ℕ) (fs : Fields) (x x' : Shape) (nm : List ℕ) (gs : Fields) (y y' : Shape) (m : List ℕ) (ms : Members) (v : Value) → DistinctFields fs → same nm name ≡ true → way_of (Structure name fs) s ≡ Some w → part_by (Structure name fs) w ≡ Some x → old_way old new (Structure name fs) w ≡ Some o
      → step_of (Structure nm gs) o ≡ Some t → part_by (Structure nm gs) o ≡ Some y → shape_part (Structure name fs) s ≡ Some x' → shape_part (Structure nm gs) t ≡ Some y' → part (structure m ms) t ≡ Some v → Goes (Structure name fs) x x' (Structure nm gs) y y' (structure m ms) v s
  structure_step (step.Field k) t w o name fs x x' nm gs y y' m ms v d h a b c e f p q u =
      let n = mapped_some by_name (field_name fs k) w a in
      let r = mapped_some by_name (old_name (structure_pairs old new name) n.0) o (ap (old_way old new (Structure name fs)) n.2 ∙ c) in
      let j = mapped_some step.Field (field_number gs r.0) t (ap (step_of (Structure nm gs)) r.2 ∙ e) in
      let go = field_goes fs gs ms (structure_pairs old new name) (field_before name (Some (Structure nm gs, structure m ms))) k j.0 n.0 r.0 x x' y y' v d (λ i. ap (λ z. if z then old_field gs ms i else None) h)
      n.1 (ap (part_by (Structure name fs)) n.2 ∙ b) r.1 j.1 (ap (part_by (Structure nm gs)) r.2 ∙ f) p (ap (shape_part (Structure nm gs)) j.2 ∙ q) (ap (part (structure m ms)) j.2 ∙ u) in
      record { new_part = go.0; old_shape = go.1; carried = go.2 }
  structure_step (step.Element i) t w o name fs x x' nm gs y y' m ms v d h a b c e f p q u = cc

  instance_step : (s t : Step) (w o : Way) (cl : ℕ) (name : List ℕ) (fs : Fields) (x x' : Shape) (ck : ℕ) (nm : List ℕ) (gs : Fields) (y y' : Shape) (m : List ℕ) (ms : Members) (v : Value) → DistinctFields fs → same nm name ≡ true → way_of (Instance cl name fs) s ≡ Some w → part_by (Instance cl name fs) w ≡ Some x → old_way old new (Instance cl name fs) w ≡ Some o
      → step_of (Instance ck nm gs) o ≡ Some t → part_by (Instance ck nm gs) o ≡ Some y → shape_part (Instance cl name fs) s ≡ Some x' → shape_part (Instance ck nm gs) t ≡ Some y' → part (instance m ms) t ≡ Some v → Goes (Instance cl name fs) x x' (Instance ck nm gs) y y' (instance m ms) v s
  instance_step (step.Field k) t w o cl name fs x x' ck nm gs y y' m ms v d h a b c e f p q u =
      let n = mapped_some by_name (field_name fs k) w a in
      let r = mapped_some by_name (old_name (class_pairs old new cl) n.0) o (ap (old_way old new (Instance cl name fs)) n.2 ∙ c) in
      let j = mapped_some step.Field (field_number gs r.0) t (ap (step_of (Instance ck nm gs)) r.2 ∙ e) in
      let go = field_goes fs gs ms (class_pairs old new cl) (variable_before name (Some (Instance ck nm gs, instance m ms))) k j.0 n.0 r.0 x x' y y' v d (λ i. ap (λ z. if z then old_field gs ms i else None) h)
      n.1 (ap (part_by (Instance cl name fs)) n.2 ∙ b) r.1 j.1 (ap (part_by (Instance ck nm gs)) r.2 ∙ f) p (ap (shape_part (Instance ck nm gs)) j.2 ∙ q) (ap (part (instance m ms)) j.2 ∙ u) in
      record { new_part = go.0; old_shape = go.1; carried = go.2 }
  instance_step (step.Element i) t w o cl name fs x x' ck nm gs y y' m ms v d h a b c e f p q u = cc

  false_true : false ≡ true → ⊥
  false_true e = cc

  step_goes : (sh osh : Shape) (ov : Value) (s t : Step) (w o : Way) (x x' y y' : Shape) (v : Value) → Distinct sh → Fit old osh ov → are_alike sh osh ≡ true → way_of sh s ≡ Some w → part_by sh w ≡ Some x → old_way old new sh w ≡ Some o
      → step_of osh o ≡ Some t → part_by osh o ≡ Some y → shape_part sh s ≡ Some x' → shape_part osh t ≡ Some y' → part ov t ≡ Some v → Goes sh x x' osh y y' ov v s
  step_goes (Array low n z) (Array m k r) (array l vs) s t w o x x' y y' v d g h = array_step s t w o low n z x x' m k r y y' l vs v g.0
  step_goes (Array low n z) (Array m k r) ov s t w o x x' y y' v d g h = absurd g
  step_goes (Structure name fs) (Structure nm gs) (structure m ms) s t w o x x' y y' v d g h = structure_step s t w o name fs x x' nm gs y y' m ms v d h
  step_goes (Structure name fs) (Structure nm gs) ov s t w o x x' y y' v d g h = absurd g
  step_goes (Instance cl name fs) (Instance ck nm gs) (instance m ms) s t w o x x' y y' v d g h = instance_step s t w o cl name fs x x' ck nm gs y y' m ms v d h
  step_goes (Instance cl name fs) (Instance ck nm gs) ov s t w o x x' y y' v d g h = absurd g
  step_goes sh osh ov s t w o x x' y y' v d g h = absurd (false_true h)

  -- ---- many steps

  first_some : (o p : Option Shape) (ss ts : List Step) → alike_along o p ss ts ≡ true → (x : Shape) × (o ≡ Some x)
  first_some None p ss ts e = cc
  first_some (Some x) p ss ts e = (x, refl)

  tail_is : (s t : Step) (ss ts : List Step) → s ∷ ss ≡ t ∷ ts → (s ≡ t) × (ss ≡ ts)
  tail_is s t ss ts e = (cc, cc)

  -- the first of these steps as a way, and the others
  record WaysOf (sh : Shape) (s : Step) (ss : List Step) (ws : List Way) : Type 0 where
    way : Way
    x : Shape
    rest : List Way
    is_way : way_of sh s ≡ Some way
    is_part : part_by sh way ≡ Some x
    are_rest : ways_of x ss ≡ Some rest
    is : way ∷ rest ≡ ws

  split_ways : (sh : Shape) (s : Step) (ss : List Step) (ws : List Way) → ways_of sh (s ∷ ss) ≡ Some ws → WaysOf sh s ss ws
  split_ways sh s ss ws e =
      let w = then_some (way_of sh s) (λ w. part_by sh w >>= λ x. ways_of x ss >>= λ ws. Some (w ∷ ws)) ws e in
      let x = then_some (part_by sh w.0) (λ x. ways_of x ss >>= λ ws. Some (w.0 ∷ ws)) ws w.2 in
      let r = then_some (ways_of x.0 ss) (λ ws. Some (w.0 ∷ ws)) ws x.2 in
      record { way = w.0; x = x.0; rest = r.0; is_way = w.1; is_part = x.1; are_rest = r.1; is = one_some (w.0 ∷ r.0) ws r.2 }

  -- the same of ways, and of those that they had before
  record FromsOf (sh : Shape) (w : Way) (ws os : List Way) : Type 0 where
    from : Way
    x : Shape
    rest : List Way
    is_from : old_way old new sh w ≡ Some from
    is_part : part_by sh w ≡ Some x
    are_rest : old_ways old new x ws ≡ Some rest
    is : from ∷ rest ≡ os

  split_froms : (sh : Shape) (w : Way) (ws os : List Way) → old_ways old new sh (w ∷ ws) ≡ Some os → FromsOf sh w ws os
  split_froms sh w ws os e =
      let o = then_some (old_way old new sh w) (λ o. part_by sh w >>= λ x. old_ways old new x ws >>= λ os. Some (o ∷ os)) os e in
      let x = then_some (part_by sh w) (λ x. old_ways old new x ws >>= λ os. Some (o.0 ∷ os)) os o.2 in
      let r = then_some (old_ways old new x.0 ws) (λ os. Some (o.0 ∷ os)) os x.2 in
      record { from = o.0; x = x.0; rest = r.0; is_from = o.1; is_part = x.1; are_rest = r.1; is = one_some (o.0 ∷ r.0) os r.2 }

  -- and of ways as steps
  record StepsOf (osh : Shape) (o : Way) (os : List Way) (t : Step) (ts : List Step) : Type 0 where
    y : Shape
    is_step : step_of osh o ≡ Some t
    is_part : part_by osh o ≡ Some y
    are_rest : steps_of y os ≡ Some ts

  split_steps : (osh : Shape) (o : Way) (os : List Way) (t : Step) (ts : List Step) → steps_of osh (o ∷ os) ≡ Some (t ∷ ts) → StepsOf osh o os t ts
  split_steps osh o os t ts e =
      let s = then_some (step_of osh o) (λ s. part_by osh o >>= λ x. steps_of x os >>= λ ss. Some (s ∷ ss)) (t ∷ ts) e in
      let y = then_some (part_by osh o) (λ x. steps_of x os >>= λ ss. Some (s.0 ∷ ss)) (t ∷ ts) s.2 in
      let r = then_some (steps_of y.0 os) (λ ss. Some (s.0 ∷ ss)) (t ∷ ts) y.2 in
      let same_steps = tail_is s.0 t r.0 ts (one_some (s.0 ∷ r.0) (t ∷ ts) r.2) in
      record { y = y.0; is_step = s.1 ∙ ap Some same_steps.0; is_part = y.1; are_rest = r.1 ∙ ap Some same_steps.1 }

  -- one step, and what the others give
  steps_next : (s t : Step) (ss ts : List Step) (sh osh : Shape) (ov : Value) (a : Shape × Value) (w o : Way) (x y : Shape) → Distinct sh → Fit old osh ov → way_of sh s ≡ Some w → part_by sh w ≡ Some x → old_way old new sh w ≡ Some o
      → step_of osh o ≡ Some t → part_by osh o ≡ Some y → alike_along (Some sh) (Some osh) (s ∷ ss) (t ∷ ts) ≡ true → shape_at osh (t ∷ ts) ≡ Some a.0 → value_at ov (t ∷ ts) ≡ Some a.1
      → ((v : Value) → Fit old y v → alike_along (Some x) (Some y) ss ts ≡ true → shape_at y ts ≡ Some a.0 → value_at v ts ≡ Some a.1 → old_along old new x (Some (y, v)) ss ≡ Some a) → old_along old new sh (Some (osh, ov)) (s ∷ ss) ≡ Some a
  steps_next s t ss ts sh osh ov a w o x y d g e1 e2 e3 e4 e5 k p q rest =
      let y' = then_some (shape_part osh t) (λ z. shape_at z ts) a.0 p in
      let v = then_some (part ov t) (λ z. value_at z ts) a.1 q in
      let like = both (are_alike sh osh) (alike_along (shape_part sh s) (shape_part osh t) ss ts) k in
      let x' = first_some (shape_part sh s) (shape_part osh t) ss ts like.1 in
      let go = step_goes sh osh ov s t w o x x'.0 y y'.0 v.0 d g like.0 e1 e2 e3 e4 e5 x'.1 y'.1 v.1 in
      let to_new : shape_part sh s ≡ Some x = x'.1 ∙ ap Some go.new_part in
      let to_old : shape_part osh t ≡ Some y = y'.1 ∙ ap Some go.old_shape in
      then_is (shape_part sh s) (λ z. old_along old new z (old_part old new sh (Some (osh, ov)) s) ss) x a to_new
      (ap (λ z. old_along old new x z ss) go.carried
      ∙ rest v.0 (part_fits old osh y ov v.0 t g to_old v.1) (sym (ap₂ (λ i j. alike_along i j ss ts) to_new to_old) ∙ like.1) (ap (λ z. shape_at z ts) (sym go.old_shape) ∙ y'.2) v.2)

  steps_go : (ss ts : List Step) (ws os : List Way) (sh osh : Shape) (ov : Value) (a : Shape × Value) → Distinct sh → Fit old osh ov → ways_of sh ss ≡ Some ws → old_ways old new sh ws ≡ Some os → steps_of osh os ≡ Some ts
      → alike_along (Some sh) (Some osh) ss ts ≡ true → shape_at osh ts ≡ Some a.0 → value_at ov ts ≡ Some a.1 → old_along old new sh (Some (osh, ov)) ss ≡ Some a
  steps_go [] [] ws os sh osh ov a d g e f h k p q = ap₂ (λ x y. Some (x, y)) (one_some osh a.0 p) (one_some ov a.1 q)
  steps_go [] (t ∷ ts) ws os sh osh ov a d g e f h k p q = cc
  steps_go (s ∷ ss) [] ws os sh osh ov a d g e f h k p q = cc
  steps_go (s ∷ ss) (t ∷ ts) ws os sh osh ov a d g e f h k p q =
      let c = split_ways sh s ss ws e in
      let b = split_froms sh c.way c.rest os (subst (λ z. old_ways old new sh z ≡ Some os) (sym c.is) f) in
      let i = split_steps osh b.from b.rest t ts (subst (λ z. steps_of osh z ≡ Some (t ∷ ts)) (sym b.is) h) in
      steps_next s t ss ts sh osh ov a c.way b.from c.x i.y d g c.is_way c.is_part b.is_from i.is_step i.is_part k p q
      (λ v fits like shape value.
      steps_go ss ts c.rest b.rest c.x i.y v a (part_distinct sh c.x c.way d c.is_part) fits c.are_rest
      (subst (λ z. old_ways old new z c.rest ≡ Some b.rest) (one_some b.x c.x (sym b.is_part ∙ c.is_part)) b.are_rest) i.are_rest like shape value)

  -- ---- paths

  -- the regions and shapes of a new path and of its old one
  record Regions (q r : Path) : Type 0 where
    b : ℕ
    s : Shape
    o : Shape
    is_old : old_region old new q.region ≡ Some b
    new_shape : region_shape new q.region ≡ Some s
    old_shape : region_shape old b ≡ Some o
    rest : (ways_of s q.steps >>= λ ws. old_ways old new s ws >>= λ os. steps_of o os >>= λ ss. Some (record { region = b; steps = ss })) ≡ Some r

  split_regions : (q r : Path) → old_path old new q ≡ Some r → Regions q r
  split_regions q r e =
      let b = then_some (old_region old new q.region)
      (λ b. region_shape new q.region >>= λ s. region_shape old b >>= λ o. ways_of s q.steps >>= λ ws. old_ways old new s ws >>= λ os. steps_of o os >>= λ ss. Some (record { region = b; steps = ss })) r e in
      let s = then_some (region_shape new q.region) (λ s. region_shape old b.0 >>= λ o. ways_of s q.steps >>= λ ws. old_ways old new s ws >>= λ os. steps_of o os >>= λ ss. Some (record { region = b.0; steps = ss })) r b.2 in
      let o = then_some (region_shape old b.0) (λ o. ways_of s.0 q.steps >>= λ ws. old_ways old new s.0 ws >>= λ os. steps_of o os >>= λ ss. Some (record { region = b.0; steps = ss })) r s.2 in
      record { b = b.0; s = s.0; o = o.0; is_old = b.1; new_shape = s.1; old_shape = o.1; rest = o.2 }

  -- and their steps
  record Steps (b : ℕ) (s o : Shape) (ss : List Step) (r : Path) : Type 0 where
    ws : List Way
    os : List Way
    ts : List Step
    are_ways : ways_of s ss ≡ Some ws
    are_froms : old_ways old new s ws ≡ Some os
    are_steps : steps_of o os ≡ Some ts
    is : r ≡ record { region = b; steps = ts }

  split_rest : (b : ℕ) (s o : Shape) (ss : List Step) (r : Path) → (ways_of s ss >>= λ ws. old_ways old new s ws >>= λ os. steps_of o os >>= λ ts. Some (record { region = b; steps = ts })) ≡ Some r → Steps b s o ss r
  split_rest b s o ss r e =
      let ws = then_some (ways_of s ss) (λ ws. old_ways old new s ws >>= λ os. steps_of o os >>= λ ts. Some (record { region = b; steps = ts })) r e in
      let os = then_some (old_ways old new s ws.0) (λ os. steps_of o os >>= λ ts. Some (record { region = b; steps = ts })) r ws.2 in
      let ts = then_some (steps_of o os.0) (λ ts. Some (record { region = b; steps = ts })) r os.2 in
      record { ws = ws.0; os = os.0; ts = ts.0; are_ways = ws.1; are_froms = os.1; are_steps = ts.1; is = sym (one_some (record { region = b; steps = ts.0 }) r ts.2) }

  -- where a path has that old path, and the old value is there
  value_of : (before : Store) (q : Path) (a : Shape × Value) (b : ℕ) (s o : Shape) (ws os : List Way) (ts : List Step) → NamesDiffer new → Good old before → old_region old new q.region ≡ Some b → region_shape new q.region ≡ Some s
      → region_shape old b ≡ Some o → ways_of s q.steps ≡ Some ws → old_ways old new s ws ≡ Some os → steps_of o os ≡ Some ts → path_shape old (record { region = b; steps = ts }) ≡ Some a.0
      → at before (record { region = b; steps = ts }) ≡ Some a.1 → alike_along (region_shape new q.region) (region_shape old b) q.steps ts ≡ true → old_at old new before q ≡ Some a
  value_of before q a b s o ws os ts differ good e1 e2 e3 e4 e5 e6 shape value like =
      let v = then_some (member before b) (λ z. value_at z ts) a.1 value in
      let h = (good.each b).by o e3 in
      let fits : Fit old o v.0 = subst (Fit old o) (one_some h.0 v.0 (sym h.1 ∙ v.1)) h.2 in
      let from : region_before old new before q.region ≡ Some (o, v.0) =
      then_is (old_region old new q.region) (λ r. region_shape old r >>= λ sh. member before r >>= λ v. Some (sh, v)) b (o, v.0) e1
      (then_is (region_shape old b) (λ sh. member before b >>= λ v. Some (sh, v)) o (o, v.0) e3 (then_is (member before b) (λ v. Some (o, v)) v.0 (o, v.0) v.1 refl)) in
      then_is (region_shape new q.region) (λ z. old_along old new z (region_before old new before q.region) q.steps) s a e2
      (ap (λ z. old_along old new s z q.steps) from
      ∙ steps_go q.steps ts ws os s o v.0 a (differ.shapes q.region s e2) fits e4 e5 e6 (sym (ap₂ (λ i j. alike_along i j q.steps ts) e2 e3) ∙ like) (sym (ap (λ z. z >>= λ w. shape_at w ts) e3) ∙ shape) v.2)

  pub old_value : (before : Store) (q : Path) (a : Shape × Value) → NamesDiffer new → Good old before → ComesFrom old new before q a → old_at old new before q ≡ Some a
  old_value before q a differ good c =
      let i = split_regions q c.path c.is_old in
      let j = split_rest i.b i.s i.o q.steps c.path i.rest in
      value_of before q a i.b i.s i.o j.ws j.os j.ts differ good i.is_old i.new_shape i.old_shape j.are_ways j.are_froms j.are_steps (subst (λ z. path_shape old z ≡ Some a.0) j.is c.shape) (subst (λ z. at before z ≡ Some a.1) j.is c.value)
      (subst (λ z. alike_along (region_shape new q.region) (region_shape old z.region) q.steps z.steps ≡ true) j.is c.alike)
