-- Paths before and after are inverse to each other, and counterparts name each other.
use Rattle.std.proofs.Common.{◌≡◌, ℕ, Bool, true, false, List, [], ◌∷◌, Option, Some, None, refl, ap, ◌∙◌, subst}
use Rattle.std.specs.Prelude.{if◌then◌else◌, nat_lt, ◌&&◌, option_map}
use Rattle.plc_text.specs.Words.{same}
use Rattle.st_tree.specs.declared.path.Step.TheVariants as step
use Rattle.st_values.specs.Program.{Program}
use Rattle.st_values.specs.Value.{Path, Step, place_of_index}
use Rattle.st_values.specs.Shape.{Shape, Elementary, Enumeration, Reference, Interface, Array, Structure, Instance, Fields, no_fields, field_then, element_shape, region_shape, path_shape}
use Rattle.st_change.specs.From.{old_name, new_name, Way, by_name, by_index, field_name, field_number, field_named, part_by, way_of, step_of, ways_of, steps_of, region_name, region_pairs, pairs_of, old_way, new_way, old_ways, new_ways, old_region, new_region, old_path, new_path}
use Rattle.st_change.specs.Counterpart.{moves, is_instance_of, old_counterpart, new_counterpart}
use Rattle.st_change.specs.Laws.{Distinct, DistinctFields, Paired, PathLaws}
use Rattle.st_change.proofs.Names.{then_is, then_some, mapped_some, passed, old_new, new_old, name_number, number_name, region_number_of, region_name_of}

pub both : (a b : Bool) → (a && b) ≡ true → (a ≡ true) × (b ≡ true)
both true true e = (refl, refl)
both true false e = cc
both false b e = cc

joined : (a b : Bool) → a ≡ true → b ≡ true → (a && b) ≡ true
joined true true e f = refl
joined true false e f = cc
joined false b e f = cc

-- ---- steps and ways

mapped_is : {A B : Type 0} (h : A → B) (o : Option A) (a : A) (b : B) → o ≡ Some a → h a ≡ b → option_map h o ≡ Some b
mapped_is h o a b e k = ap (option_map h) e ∙ ap Some k

step_way : (sh : Shape) (s : Step) (w : Way) → step_of sh w ≡ Some s → way_of sh s ≡ Some w
step_way (Array low n sh) s (by_index i) e = let d : step.Element i ≡ s = cc in subst (λ x. way_of (Array low n sh) x ≡ Some (by_index i)) d refl
step_way (Array low n sh) s (by_name f) e = cc
step_way (Structure name fs) s (by_index i) e = cc
step_way (Structure name fs) s (by_name f) e =
    let a = mapped_some step.Field (field_number fs f) s e in
    subst (λ x. way_of (Structure name fs) x ≡ Some (by_name f)) a.2 (ap (option_map by_name) (number_name fs a.0 f a.1))
step_way (Instance c name fs) s (by_index i) e = cc
step_way (Instance c name fs) s (by_name f) e =
    let a = mapped_some step.Field (field_number fs f) s e in
    subst (λ x. way_of (Instance c name fs) x ≡ Some (by_name f)) a.2 (ap (option_map by_name) (number_name fs a.0 f a.1))
step_way (Elementary x) s w e = cc
step_way (Enumeration name vs) s w e = cc
step_way (Reference c name) s w e = cc
step_way (Interface i name) s w e = cc

way_step : (sh : Shape) (s : Step) (w : Way) → Distinct sh → way_of sh s ≡ Some w → step_of sh w ≡ Some s
way_step (Array low n sh) (step.Element i) w d e = let k : by_index i ≡ w = cc in subst (λ x. step_of (Array low n sh) x ≡ Some (step.Element i)) k refl
way_step (Array low n sh) (step.Field j) w d e = cc
way_step (Structure name fs) (step.Element i) w d e = cc
way_step (Structure name fs) (step.Field j) w d e =
    let a = mapped_some by_name (field_name fs j) w e in
    subst (λ x. step_of (Structure name fs) x ≡ Some (step.Field j)) a.2 (ap (option_map step.Field) (name_number fs j a.0 d a.1))
way_step (Instance c name fs) (step.Element i) w d e = cc
way_step (Instance c name fs) (step.Field j) w d e =
    let a = mapped_some by_name (field_name fs j) w e in
    subst (λ x. step_of (Instance c name fs) x ≡ Some (step.Field j)) a.2 (ap (option_map step.Field) (name_number fs j a.0 d a.1))
way_step (Elementary x) s w d e = cc
way_step (Enumeration name vs) s w d e = cc
way_step (Reference c name) s w d e = cc
way_step (Interface i name) s w d e = cc

named_distinct : (fs : Fields) (f : List ℕ) (sh : Shape) → DistinctFields fs → field_named fs f ≡ Some sh → Distinct sh
named_distinct no_fields f sh d e = cc
named_distinct (field_then v x fs) f sh d e = by (same v.name f) (named_distinct fs f sh d.2) e
  where
    by : (b : Bool) → (field_named fs f ≡ Some sh → Distinct sh) → (if b then Some x else field_named fs f) ≡ Some sh → Distinct sh
    by true k h = let q : x ≡ sh = cc in subst Distinct q d.1
    by false k h = k h

element_distinct : (n : ℕ) (x sh : Shape) (o : Option ℕ) → Distinct x → element_shape n x o ≡ Some sh → Distinct sh
element_distinct n x sh None d e = cc
element_distinct n x sh (Some k) d e = let p = passed (nat_lt k n) x sh e in subst Distinct p.1 d

pub part_distinct : (sh part : Shape) (w : Way) → Distinct sh → part_by sh w ≡ Some part → Distinct part
part_distinct (Array low n sh) part (by_index i) d e = element_distinct n sh part (place_of_index low i) d e
part_distinct (Array low n sh) part (by_name f) d e = cc
part_distinct (Structure name fs) part (by_name f) d e = named_distinct fs f part d e
part_distinct (Structure name fs) part (by_index i) d e = cc
part_distinct (Instance c name fs) part (by_name f) d e = named_distinct fs f part d e
part_distinct (Instance c name fs) part (by_index i) d e = cc
part_distinct (Elementary x) part w d e = cc
part_distinct (Enumeration name vs) part w d e = cc
part_distinct (Reference c name) part w d e = cc
part_distinct (Interface i name) part w d e = cc

steps_ways : (ws : List Way) (ss : List Step) (sh : Shape) → steps_of sh ws ≡ Some ss → ways_of sh ss ≡ Some ws
steps_ways [] ss sh e = let d : [] ≡ ss = cc in subst (λ x. ways_of sh x ≡ Some []) d refl
steps_ways (w ∷ ws) ss sh e =
    let a = then_some (step_of sh w) _ ss e in
    let b = then_some (part_by sh w) _ ss a.2 in
    let c = then_some (steps_of b.0 ws) _ ss b.2 in
    let d : a.0 ∷ c.0 ≡ ss = let x = c.2 in cc in
    subst (λ x. ways_of sh x ≡ Some (w ∷ ws)) d
    (then_is (way_of sh a.0) _ w (w ∷ ws) (step_way sh a.0 w a.1)
    (then_is (part_by sh w) _ b.0 (w ∷ ws) b.1
    (then_is (ways_of b.0 c.0) _ ws (w ∷ ws) (steps_ways ws c.0 b.0 c.1) refl)))

pub ways_steps : (ss : List Step) (ws : List Way) (sh : Shape) → Distinct sh → ways_of sh ss ≡ Some ws → steps_of sh ws ≡ Some ss
ways_steps [] ws sh u e = let d : [] ≡ ws = cc in subst (λ x. steps_of sh x ≡ Some []) d refl
ways_steps (s ∷ ss) ws sh u e =
    let a = then_some (way_of sh s) _ ws e in
    let b = then_some (part_by sh a.0) _ ws a.2 in
    let c = then_some (ways_of b.0 ss) _ ws b.2 in
    let d : a.0 ∷ c.0 ≡ ws = let x = c.2 in cc in
    subst (λ x. steps_of sh x ≡ Some (s ∷ ss)) d
    (then_is (step_of sh a.0) _ s (s ∷ ss) (way_step sh s a.0 u a.1)
    (then_is (part_by sh a.0) _ b.0 (s ∷ ss) b.1
    (then_is (steps_of b.0 c.0) _ ss (s ∷ ss) (ways_steps ss c.0 b.0 (part_distinct sh b.0 a.0 u b.1) c.1) refl)))

-- ---- ways before and after

module _ (old new : Program) (good : Paired old new) where
  way_new : (sh : Shape) (w o : Way) → old_way old new sh w ≡ Some o → new_way old new sh o ≡ Some w
  way_new sh (by_index i) o e = let d : by_index i ≡ o = cc in subst (λ x. new_way old new sh x ≡ Some (by_index i)) d refl
  way_new sh (by_name f) o e =
      let a = mapped_some by_name (old_name (pairs_of old new sh) f) o e in
      subst (λ x. new_way old new sh x ≡ Some (by_name f)) a.2 (ap (option_map by_name) (old_new (pairs_of old new sh) f a.0 a.1))

  way_old : (sh : Shape) (w o : Way) → new_way old new sh o ≡ Some w → old_way old new sh w ≡ Some o
  way_old sh w (by_index i) e = let d : by_index i ≡ w = cc in subst (λ x. old_way old new sh x ≡ Some (by_index i)) d refl
  way_old sh w (by_name f) e =
      let a = mapped_some by_name (new_name (pairs_of old new sh) f) w e in
      subst (λ x. old_way old new sh x ≡ Some (by_name f)) a.2 (ap (option_map by_name) (new_old (pairs_of old new sh) a.0 f (good.once sh) a.1))

  ways_new : (ws os : List Way) (sh : Shape) → old_ways old new sh ws ≡ Some os → new_ways old new sh os ≡ Some ws
  ways_new [] os sh e = let d : [] ≡ os = cc in subst (λ x. new_ways old new sh x ≡ Some []) d refl
  ways_new (w ∷ ws) os sh e =
      let a = then_some (old_way old new sh w) _ os e in
      let b = then_some (part_by sh w) _ os a.2 in
      let c = then_some (old_ways old new b.0 ws) _ os b.2 in
      let d : a.0 ∷ c.0 ≡ os = let x = c.2 in cc in
      subst (λ x. new_ways old new sh x ≡ Some (w ∷ ws)) d
      (then_is (new_way old new sh a.0) _ w (w ∷ ws) (way_new sh w a.0 a.1)
      (then_is (part_by sh w) _ b.0 (w ∷ ws) b.1
      (then_is (new_ways old new b.0 c.0) _ ws (w ∷ ws) (ways_new ws c.0 b.0 c.1) refl)))

  ways_old : (os ws : List Way) (sh : Shape) → new_ways old new sh os ≡ Some ws → old_ways old new sh ws ≡ Some os
  ways_old [] ws sh e = let d : [] ≡ ws = cc in subst (λ x. old_ways old new sh x ≡ Some []) d refl
  ways_old (o ∷ os) ws sh e =
      let a = then_some (new_way old new sh o) _ ws e in
      let b = then_some (part_by sh a.0) _ ws a.2 in
      let c = then_some (new_ways old new b.0 os) _ ws b.2 in
      let d : a.0 ∷ c.0 ≡ ws = let x = c.2 in cc in
      subst (λ x. old_ways old new sh x ≡ Some (o ∷ os)) d
      (then_is (old_way old new sh a.0) _ o (o ∷ os) (way_old sh a.0 o a.1)
      (then_is (part_by sh a.0) _ b.0 (o ∷ os) b.1
      (then_is (old_ways old new b.0 c.0) _ os (o ∷ os) (ways_old os c.0 b.0 c.1) refl)))

  -- ---- regions

  region_new : (q r : ℕ) → old_region old new q ≡ Some r → new_region old new r ≡ Some q
  region_new q r e =
      let a = then_some (region_name new q) _ r e in
      let b = then_some (old_name (region_pairs old new) a.0) _ r a.2 in
      then_is (region_name old r) _ b.0 q (region_name_of old.regions r b.0 b.2)
      (then_is (new_name (region_pairs old new) b.0) _ a.0 q (old_new (region_pairs old new) a.0 b.0 b.1) (region_number_of new.regions q a.0 good.new_differ.regions a.1))

  region_old : (q r : ℕ) → new_region old new r ≡ Some q → old_region old new q ≡ Some r
  region_old q r e =
      let a = then_some (region_name old r) _ q e in
      let b = then_some (new_name (region_pairs old new) a.0) _ q a.2 in
      then_is (region_name new q) _ b.0 r (region_name_of new.regions q b.0 b.2)
      (then_is (old_name (region_pairs old new) b.0) _ a.0 r (new_old (region_pairs old new) b.0 a.0 good.regions_once b.1) (region_number_of old.regions r a.0 good.old_differ.regions a.1))

  -- ---- paths

  path_new : (q r : Path) → old_path old new q ≡ Some r → new_path old new r ≡ Some q
  path_new q r e =
      let a = then_some (old_region old new q.region) _ r e in
      let b = then_some (region_shape new q.region) _ r a.2 in
      let c = then_some (region_shape old a.0) _ r b.2 in
      let d = then_some (ways_of b.0 q.steps) _ r c.2 in
      let f = then_some (old_ways old new b.0 d.0) _ r d.2 in
      let g = then_some (steps_of c.0 f.0) _ r f.2 in
      let is : record { region = a.0; steps = g.0 } ≡ r = let x = g.2 in cc in
      subst (λ x. new_path old new x ≡ Some q) is
      (then_is (new_region old new a.0) _ q.region q (region_new q.region a.0 a.1)
      (then_is (region_shape old a.0) _ c.0 q c.1
      (then_is (region_shape new q.region) _ b.0 q b.1
      (then_is (ways_of c.0 g.0) _ f.0 q (steps_ways f.0 g.0 c.0 g.1)
      (then_is (new_ways old new b.0 f.0) _ d.0 q (ways_new d.0 f.0 b.0 f.1)
      (then_is (steps_of b.0 d.0) _ q.steps q (ways_steps q.steps d.0 b.0 (good.new_differ.shapes q.region b.0 b.1) d.1) refl))))))

  path_old : (q r : Path) → new_path old new r ≡ Some q → old_path old new q ≡ Some r
  path_old q r e =
      let a = then_some (new_region old new r.region) _ q e in
      let b = then_some (region_shape old r.region) _ q a.2 in
      let c = then_some (region_shape new a.0) _ q b.2 in
      let d = then_some (ways_of b.0 r.steps) _ q c.2 in
      let f = then_some (new_ways old new c.0 d.0) _ q d.2 in
      let g = then_some (steps_of c.0 f.0) _ q f.2 in
      let is : record { region = a.0; steps = g.0 } ≡ q = let x = g.2 in cc in
      subst (λ x. old_path old new x ≡ Some r) is
      (then_is (old_region old new a.0) _ r.region r (region_old a.0 r.region a.1)
      (then_is (region_shape new a.0) _ c.0 r c.1
      (then_is (region_shape old r.region) _ b.0 r b.1
      (then_is (ways_of c.0 g.0) _ f.0 r (steps_ways f.0 g.0 c.0 g.1)
      (then_is (old_ways old new c.0 f.0) _ d.0 r (ways_old d.0 f.0 c.0 f.1)
      (then_is (steps_of b.0 d.0) _ r.steps r (ways_steps r.steps d.0 b.0 (good.old_differ.shapes r.region b.0 b.1) d.1) refl))))))

  -- ---- counterparts

  to_new : (q r : Path) (name : List ℕ) → is_instance_of name (path_shape new q) ≡ true → old_counterpart old new q name ≡ Some r → new_counterpart old new r name ≡ Some q
  to_new q r name h e =
      let a = then_some (old_path old new q) _ r e in
      let b = passed (moves old new q && is_instance_of name (path_shape old a.0)) a.0 r a.2 in
      let m = both (moves old new q) (is_instance_of name (path_shape old a.0)) b.0 in
      let is : old_path old new q ≡ Some r = a.1 ∙ ap Some b.1 in
      then_is (new_path old new r) _ q q (path_new q r is) (ap (λ x. if x then Some q else None) (joined (moves old new q) (is_instance_of name (path_shape new q)) m.0 h))

  to_old : (q r : Path) (name : List ℕ) → is_instance_of name (path_shape old r) ≡ true → new_counterpart old new r name ≡ Some q → old_counterpart old new q name ≡ Some r
  to_old q r name h e =
      let a = then_some (new_path old new r) _ q e in
      let b = passed (moves old new a.0 && is_instance_of name (path_shape new a.0)) a.0 q a.2 in
      let m = both (moves old new a.0) (is_instance_of name (path_shape new a.0)) b.0 in
      let is : new_path old new r ≡ Some q = a.1 ∙ ap Some b.1 in
      let moved : moves old new q ≡ true = subst (λ x. moves old new x ≡ true) b.1 m.0 in
      then_is (old_path old new q) _ r r (path_old q r is) (ap (λ x. if x then Some r else None) (joined (moves old new q) (is_instance_of name (path_shape old r)) moved h))

pub path_laws : PathLaws
path_laws = record {
  inverse = λ old new good q r. (path_new old new good q r, path_old old new good q r);
  counterparts = λ old new good q r name h k. (to_new old new good q r name h, to_old old new good q r name k);
}
