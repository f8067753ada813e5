-- Each place gets what is carried to it alone.
use Rattle.std.proofs.Common.{◌≡◌, ℕ, zero, suc, ◌+◌, ℤ, pos, negsuc, Bool, true, false, List, [], ◌∷◌, Option, Some, None, refl, sym, ap, ap₂, ◌∙◌, subst, arith}
use Rattle.std.specs.Prelude.{if◌then◌else◌, not, ◌&&◌, ◌+ℤ◌, ◌-ℤ◌, slice_get}
use Rattle.std.proofs.lemmas.Int.{ints}
use Rattle.st_tree.specs.declared.path.Path.{Path}
use Rattle.st_tree.specs.declared.path.Step.{Step}
use Rattle.st_tree.specs.declared.path.Step.TheVariants as step
use Rattle.st_values.specs.Program.{Region, Program}
use Rattle.st_values.specs.Value.{Value, number, reference, array, structure, instance, Values, no_values, value_then, Members, no_members, member_then, Store, ◌>>=◌, element, member, natural, place_of_index, part, value_at, at}
use Rattle.st_values.specs.Shape.{Shape, Elementary, Enumeration, Reference, Interface, Array, Structure, Instance, Fields, no_fields, field_then, field, element_shape, shape_part, shape_at, shape_of, region_shape, path_shape}
use Rattle.st_meaning.specs.st_frame.Good.{Fit, Good}
use Rattle.st_meaning.proofs.st_frame.Values.{element_of, fit_at}
use Rattle.st_change.specs.From.{Pairs, old_name, structure_pairs, class_pairs, field_name, same_flag}
use Rattle.st_change.specs.Counterpart.{kept}
use Rattle.st_change.specs.Carry.{Old, old_element, field_before, variable_before, before_by, stays, carry, carry_elements, carry_members}
use Rattle.st_change.specs.Change.{region_before, carried_region, carry_regions, carry_store}
use Rattle.st_change.proofs.Names.{then_is, then_some}
use Rattle.st_change.specs.carry_places.Places.{old_part, old_along, old_at, free_field, free_step, none_stays, region_goes, goes}

pub natural_is : (z : ℤ) (n : ℕ) → natural z ≡ Some n → z ≡ pos n
natural_is (pos m) n e = cc
natural_is (negsuc m) n e = cc

-- a test and its denial
flipped : (b : Bool) (x y : Value) → (if b then y else x) ≡ (if not b then x else y)
flipped true x y = refl
flipped false x y = refl

-- what fits a shape has a part that fits the part of the shape
pub part_fits : (p : Program) (sh x : Shape) (v w : Value) (s : Step) → Fit p sh v → shape_part sh s ≡ Some x → part v s ≡ Some w → Fit p x w
part_fits p sh x v w s g e f =
    fit_at p (s ∷ []) sh v x w g (then_is (shape_part sh s) _ x x e refl) (then_is (part v s) _ w w f refl)

-- no variable comes from anything
record Nothing (part : List ℕ → Old) : Type 0 where
  by : (f : List ℕ) → part f ≡ None

nothing_before : (part : List ℕ → Old) (o : Option (List ℕ)) → Nothing part → before_by part o ≡ None
nothing_before part None n = refl
nothing_before part (Some f) n = n.by f

either : (b : Bool) (x y : Value) → x ≡ y → (if b then y else x) ≡ y
either true x y e = refl
either false x y e = e

module _ (old new : Program) (keeping : Bool) where
  -- ---- one step

  element_carried : (hs : Values) (sh : Shape) (o : Old) (i j : ℤ) (k : ℕ) (h : Value) → j ≡ i +ℤ pos k → element hs k ≡ Some h
      → element (carry_elements old new keeping sh o i hs) k ≡ Some (carry old new keeping sh (old_element o j) h)
  element_carried no_values sh o i j k h d e = cc
  element_carried (value_then w hs) sh o i j zero h d e =
      let a : w ≡ h = cc in
      let b : i ≡ j = omega (arith, ints) in
      ap₂ (λ x y. Some (carry old new keeping sh (old_element o x) y)) b a
  element_carried (value_then w hs) sh o i j (suc k) h d e =
      let c : j ≡ (i +ℤ pos 1) +ℤ pos k = omega (arith, ints) in
      element_carried hs sh o (i +ℤ pos 1) j k h c e

  member_carried : (hs : Members) (fs : Fields) (ps : Pairs) (part : List ℕ → Old) (k : ℕ) (x : Shape) (h : Value) → field fs k ≡ Some x → member hs k ≡ Some h
      → member (carry_members old new keeping fs ps part hs) k ≡ Some (if free_field old new keeping fs k then carry old new keeping x (before_by part (field_name fs k >>= old_name ps)) h else h)
  member_carried no_members fs ps part k x h e f = cc
  member_carried (member_then n w hs) no_fields ps part k x h e f = cc
  member_carried (member_then n w hs) (field_then v sh fs) ps part zero x h e f =
      let a : sh ≡ x = cc in
      let b : w ≡ h = cc in
      ap Some (flipped (stays old new keeping v) (carry old new keeping sh (before_by part (old_name ps v.name)) w) w)
      ∙ ap₂ (λ y u. Some (if not (stays old new keeping v) then carry old new keeping y (before_by part (old_name ps v.name)) u else u)) a b
  member_carried (member_then n w hs) (field_then v sh fs) ps part (suc k) x h e f = member_carried hs fs ps part k x h e f

  array_carried : (low l : ℤ) (n : ℕ) (sh x : Shape) (o : Old) (hs : Values) (i : ℤ) (h : Value) → low ≡ l → element_shape n sh (place_of_index low i) ≡ Some x → (place_of_index l i >>= λ k. element hs k) ≡ Some h
      → (place_of_index l i >>= λ k. element (carry_elements old new keeping sh o low hs) k) ≡ Some (carry old new keeping x (old_element o i) h)
  array_carried low l n sh x o hs i h d e f =
      let a = element_of new n sh x (place_of_index low i) e in
      let b = then_some (place_of_index l i) (λ k. element hs k) h f in
      let c : i -ℤ l ≡ pos b.0 = natural_is (i -ℤ l) b.0 b.1 in
      let j : i ≡ low +ℤ pos b.0 = omega (arith, ints) in
      then_is (place_of_index l i) (λ k. element (carry_elements old new keeping sh o low hs) k) b.0 (carry old new keeping x (old_element o i) h) b.1
      (element_carried hs sh o low i b.0 h j b.2 ∙ ap (λ y. Some (carry old new keeping y (old_element o i) h)) a.3)

  step_carried : (s : Step) (sh x : Shape) (o : Old) (held h : Value) → Fit new sh held → shape_part sh s ≡ Some x → part held s ≡ Some h
      → part (carry old new keeping sh o held) s ≡ Some (if free_step old new keeping sh s then carry old new keeping x (old_part old new sh o s) h else h)
  step_carried s (Elementary t) x o (number z) h g e f = cc
  step_carried s (Enumeration name vs) x o (number z) h g e f = cc
  step_carried s (Reference c name) x o (reference r) h g e f = cc
  step_carried s (Interface i name) x o (reference r) h g e f = cc
  step_carried (step.Element i) (Array low n sh) x o (array l hs) h g e f = array_carried low l n sh x o hs i h g.0 e f
  step_carried (step.Field k) (Array low n sh) x o (array l hs) h g e f = cc
  step_carried (step.Field k) (Structure name fs) x o (structure m hs) h g e f = member_carried hs fs (structure_pairs old new name) (field_before name o) k x h e f
  step_carried (step.Element i) (Structure name fs) x o (structure m hs) h g e f = cc
  step_carried (step.Field k) (Instance c name fs) x o (instance m hs) h g e f = member_carried hs fs (class_pairs old new c) (variable_before name o) k x h e f
  step_carried (step.Element i) (Instance c name fs) x o (instance m hs) h g e f = cc
  step_carried s sh x o held h g e f = absurd g

  -- ---- many steps

  pub place_carried : (ss : List Step) (sh leaf : Shape) (o : Old) (held h : Value) → Fit new sh held → shape_at sh ss ≡ Some leaf → value_at held ss ≡ Some h
      → value_at (carry old new keeping sh o held) ss ≡ Some (if none_stays old new keeping (Some sh) ss then carry old new keeping leaf (old_along old new sh o ss) h else h)
  place_carried [] sh leaf o held h g e f =
      let a : sh ≡ leaf = cc in
      let b : held ≡ h = cc in
      ap₂ (λ x y. Some (carry old new keeping x o y)) a b
  place_carried (s ∷ ss) sh leaf o held h g e f =
      let a = then_some (shape_part sh s) (λ x. shape_at x ss) leaf e in
      let b = then_some (part held s) (λ w. value_at w ss) h f in
      let from = old_part old new sh o s in
      let one = step_carried s sh a.0 o held b.0 g a.1 b.1 in
      let rest = place_carried ss a.0 leaf from b.0 h (part_fits new sh a.0 held b.0 s g a.1 b.1) a.2 b.2 in
      ap (λ w. w >>= λ y. value_at y ss) one
      ∙ by a.0 from b.0 b.2 rest (free_step old new keeping sh s)
      ∙ ap (λ x. Some (if free_step old new keeping sh s && none_stays old new keeping x ss then carry old new keeping leaf (x >>= λ y. old_along old new y from ss) h else h)) (sym a.1)
    where
      by : (x : Shape) (from : Old) (w : Value) → value_at w ss ≡ Some h → value_at (carry old new keeping x from w) ss ≡ Some (if none_stays old new keeping (Some x) ss then carry old new keeping leaf (old_along old new x from ss) h else h)
          → (b : Bool) → value_at (if b then carry old new keeping x from w else w) ss ≡ Some (if b && none_stays old new keeping (Some x) ss then carry old new keeping leaf (old_along old new x from ss) h else h)
      by x from w k r true = r
      by x from w k r false = k

  -- ---- what nothing comes to

  mutual
    pub nothing_carried : (h : Value) (sh : Shape) → carry old new keeping sh None h ≡ h
    nothing_carried (number z) (Elementary e) = refl
    nothing_carried (number z) (Enumeration name values) = refl
    nothing_carried (reference r) (Reference c name) = refl
    nothing_carried (reference r) (Interface i name) = refl
    nothing_carried (array l hs) (Array low n sh) = ap (array l) (elements_stay hs sh low)
    nothing_carried (structure m hs) (Structure name fs) = ap (structure m) (members_stay hs fs (structure_pairs old new name) (field_before name None) (record { by = λ f. refl }))
    nothing_carried (instance m hs) (Instance c name fs) = ap (instance m) (members_stay hs fs (class_pairs old new c) (variable_before name None) (record { by = λ f. refl }))
    nothing_carried h sh = refl

    elements_stay : (hs : Values) (sh : Shape) (i : ℤ) → carry_elements old new keeping sh None i hs ≡ hs
    elements_stay no_values sh i = refl
    elements_stay (value_then h hs) sh i = ap₂ value_then (nothing_carried h sh) (elements_stay hs sh (i +ℤ pos 1))

    members_stay : (hs : Members) (fs : Fields) (ps : Pairs) (part : List ℕ → Old) → Nothing part → carry_members old new keeping fs ps part hs ≡ hs
    members_stay no_members fs ps part n = refl
    members_stay (member_then m h hs) no_fields ps part n = refl
    members_stay (member_then m h hs) (field_then v sh fs) ps part n =
        ap₂ (member_then m)
        (either (stays old new keeping v) (carry old new keeping sh (before_by part (old_name ps v.name)) h) h
        (ap (λ o. carry old new keeping sh o h) (nothing_before part (old_name ps v.name) n) ∙ nothing_carried h sh))
        (members_stay hs fs ps part n)

  -- ---- stores

  abbrev now_there : Store → ℕ → Region → Value → Value
  now_there before r x h = if same_flag keeping (kept old new r) then carried_region old new keeping (region_shape new r) x (region_before old new before r) h else h

  region_carried : (xs : List Region) (before held : Store) (r k m : ℕ) (x : Region) (h : Value) → m ≡ r + k → slice_get xs k ≡ Some x → member held k ≡ Some h
      → member (carry_regions old new keeping before r xs held) k ≡ Some (now_there before m x h)
  region_carried xs before no_members r k m x h d e f = cc
  region_carried [] before (member_then n w hs) r k m x h d e f = cc
  region_carried (y ∷ xs) before (member_then n w hs) r zero m x h d e f =
      let a : y ≡ x = cc in
      let b : w ≡ h = cc in
      let c : r ≡ m = omega arith in
      ap (λ i. Some (now_there before i y w)) c ∙ ap₂ (λ z u. Some (now_there before m z u)) a b
  region_carried (y ∷ xs) before (member_then n w hs) r (suc k) m x h d e f =
      let c : m ≡ suc r + k = omega arith in
      region_carried xs before hs (suc r) k m x h c e f

  pub store_carried : (before held : Store) (q : Path) (leaf : Shape) (h : Value) → Good new held → path_shape new q ≡ Some leaf → at held q ≡ Some h
      → at (carry_store old new keeping before held) q ≡ Some (if goes old new keeping q then carry old new keeping leaf (old_at old new before q) h else h)
  store_carried before held q leaf h g e f =
      let a = then_some (region_shape new q.region) (λ sh. shape_at sh q.steps) leaf e in
      let x = then_some (slice_get new.regions q.region) (λ y. shape_of new y.variable.kind) a.0 a.1 in
      let v = then_some (member held q.region) (λ w. value_at w q.steps) h f in
      let good = (g.each q.region).by a.0 a.1 in
      let d : good.0 ≡ v.0 = let z = good.1 in cc in
      let fits : Fit new a.0 v.0 = subst (Fit new a.0) d good.2 in
      let from = region_before old new before q.region in
      let zero_first : q.region ≡ 0 + q.region = omega arith in
      let one = region_carried new.regions before held 0 q.region q.region x.0 v.0 zero_first x.1 v.1 in
      let inner = place_carried q.steps a.0 leaf from v.0 h fits a.2 v.2 in
      ap (λ w. w >>= λ y. value_at y q.steps) one
      ∙ ap (λ s. value_at (if same_flag keeping (kept old new q.region) then carried_region old new keeping s x.0 from v.0 else v.0) q.steps) a.1
      ∙ by a.0 x.0 from v.0 v.2 inner (same_flag keeping (kept old new q.region)) (stays old new keeping x.0.variable)
      ∙ ap (λ s. Some (if (same_flag keeping (kept old new q.region) && not (stays old new keeping x.0.variable)) && none_stays old new keeping s q.steps then carry old new keeping leaf (s >>= λ y. old_along old new y from q.steps) h else h)) (sym a.1)
      ∙ ap (λ y. Some (if region_goes old new keeping q.region y && none_stays old new keeping (region_shape new q.region) q.steps then carry old new keeping leaf (old_at old new before q) h else h)) (sym x.1)
    where
      by : (sh : Shape) (x : Region) (from : Old) (v : Value) → value_at v q.steps ≡ Some h
          → value_at (carry old new keeping sh from v) q.steps ≡ Some (if none_stays old new keeping (Some sh) q.steps then carry old new keeping leaf (old_along old new sh from q.steps) h else h)
          → (b c : Bool) → value_at (if b then (if c then v else carry old new keeping sh from v) else v) q.steps
          ≡ Some (if (b && not c) && none_stays old new keeping (Some sh) q.steps then carry old new keeping leaf (old_along old new sh from q.steps) h else h)
      by sh x from v k r true true = k
      by sh x from v k r true false = r
      by sh x from v k r false c = k

  pub whole_region_carried : (before held : Store) (r : ℕ) (sh : Shape) (h : Value) → region_shape new r ≡ Some sh → member held r ≡ Some h
      → member (carry_store old new keeping before held) r ≡ Some (if region_goes old new keeping r (slice_get new.regions r) then carry old new keeping sh (region_before old new before r) h else h)
  whole_region_carried before held r sh h e f =
      let x = then_some (slice_get new.regions r) (λ y. shape_of new y.variable.kind) sh e in
      let zero_first : r ≡ 0 + r = omega arith in
      region_carried new.regions before held 0 r r x.0 h zero_first x.1 f
      ∙ ap (λ s. Some (if same_flag keeping (kept old new r) then carried_region old new keeping s x.0 (region_before old new before r) h else h)) e
      ∙ ap Some (by (same_flag keeping (kept old new r)) (stays old new keeping x.0.variable) (carry old new keeping sh (region_before old new before r) h))
      ∙ ap (λ y. Some (if region_goes old new keeping r y then carry old new keeping sh (region_before old new before r) h else h)) (sym x.1)
    where
      by : (b c : Bool) (v : Value) → (if b then (if c then h else v) else h) ≡ (if b && not c then v else h)
      by true true v = refl
      by true false v = refl
      by false c v = refl
