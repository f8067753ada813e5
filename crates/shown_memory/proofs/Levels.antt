-- How deep shapes are: a type that unfolds to a shape of so many levels does so in as many steps, so that sizes of what is met are found within the bound.
use Rattle.std.proofs.Common.{◌≡◌, ℕ, Bool, true, false, zero, suc, ◌+◌, List, [], ◌∷◌, Option, Some, None, sym, ap, ◌∙◌, subst, arith}
use Rattle.std.specs.Prelude.{if◌then◌else◌, slice_get, option_map, nat_lt}
use Rattle.st_types.specs.declared.st_type.StType.{StType, out-StType}
use Rattle.st_types.specs.declared.st_type.StType.TheOpen.{StType-F}
use Rattle.st_tree.specs.declared.path.Step.{Step}
use Rattle.st_tree.specs.declared.path.Step.TheVariants as step
use Rattle.st_values.specs.Program.{Variable, Program, class_at, class_variables}
use Rattle.st_values.specs.Value.{◌>>=◌, place_of_index}
use Rattle.st_values.specs.Shape.{Shape, Elementary, Enumeration, Reference, Interface, Array, Structure, Instance, Fields, no_fields, field_then, extent, values_of, fields_of, fields_by, field, element_shape, simple_shape, shape_by, shape_within, shape_part, shape_at}
use Rattle.st_values.specs.ShapeLaws.{Unfolds}
use Rattle.st_values.proofs.ValueLaws.{then_some}
use Rattle.st_values.proofs.ShapeLaws.{mapped_some, more_deep}

-- at most so many arrays, structures and instances within one another
abbrev mutual
  pub IsWithin : Shape → ℕ → Type 0
  IsWithin (Elementary e) n = Unit {0}
  IsWithin (Enumeration name values) n = Unit {0}
  IsWithin (Reference c name) n = Unit {0}
  IsWithin (Interface k name) n = Unit {0}
  IsWithin (Array low m sh) zero = ⊥
  IsWithin (Array low m sh) (suc n) = IsWithin sh n
  IsWithin (Structure name fs) zero = ⊥
  IsWithin (Structure name fs) (suc n) = AreWithin fs n
  IsWithin (Instance c name fs) zero = ⊥
  IsWithin (Instance c name fs) (suc n) = AreWithin fs n

  pub AreWithin : Fields → ℕ → Type 0
  AreWithin no_fields n = Unit {0}
  AreWithin (field_then v sh fs) n = IsWithin sh n × AreWithin fs n

mutual
  pub one_more : (sh : Shape) (n : ℕ) → IsWithin sh n → IsWithin sh (suc n)
  one_more (Elementary e) n h = tt
  one_more (Enumeration name values) n h = tt
  one_more (Reference c name) n h = tt
  one_more (Interface k name) n h = tt
  one_more (Array low m sh) zero h = absurd h
  one_more (Array low m sh) (suc n) h = one_more sh n h
  one_more (Structure name fs) zero h = absurd h
  one_more (Structure name fs) (suc n) h = all_more fs n h
  one_more (Instance c name fs) zero h = absurd h
  one_more (Instance c name fs) (suc n) h = all_more fs n h

  all_more : (fs : Fields) (n : ℕ) → AreWithin fs n → AreWithin fs (suc n)
  all_more no_fields n h = tt
  all_more (field_then v sh fs) n h = (one_more sh n h.0, all_more fs n h.1)

-- ---- parts

field_within : (fs : Fields) (k n : ℕ) (part : Shape) → field fs k ≡ Some part → AreWithin fs n → IsWithin part n
field_within no_fields k n part e h = cc
field_within (field_then v sh fs) zero n part e h = let d : sh ≡ part = cc in subst (λ x. IsWithin x n) d h.0
field_within (field_then v sh fs) (suc k) n part e h = field_within fs k n part e h.1

element_within : (m : ℕ) (sh part : Shape) (n : ℕ) (o : Option ℕ) → element_shape m sh o ≡ Some part → IsWithin sh n → IsWithin part n
element_within m sh part n None e h = cc
element_within m sh part n (Some k) e h = by (nat_lt k m) e
  where
    by : (b : Bool) → (if b then Some sh else None) ≡ Some part → IsWithin part n
    by true q = let d : sh ≡ part = cc in subst (λ x. IsWithin x n) d h
    by false q = cc

part_within : (sh : Shape) (s : Step) (part : Shape) (n : ℕ) → shape_part sh s ≡ Some part → IsWithin sh n → IsWithin part n
part_within (Array low m sh) (step.Element i) part zero e h = absurd h
part_within (Array low m sh) (step.Element i) part (suc n) e h = one_more part n (element_within m sh part n (place_of_index low i) e h)
part_within (Structure name fs) (step.Field k) part zero e h = absurd h
part_within (Structure name fs) (step.Field k) part (suc n) e h = one_more part n (field_within fs k n part e h)
part_within (Instance c name fs) (step.Field k) part zero e h = absurd h
part_within (Instance c name fs) (step.Field k) part (suc n) e h = one_more part n (field_within fs k n part e h)
part_within (Elementary x) s part n e h = cc
part_within (Enumeration name values) s part n e h = cc
part_within (Reference c name) s part n e h = cc
part_within (Interface k name) s part n e h = cc
part_within (Array low m sh) (step.Field k) part n e h = cc
part_within (Structure name fs) (step.Element i) part n e h = cc
part_within (Instance c name fs) (step.Element i) part n e h = cc

pub parts_within : (ss : List Step) (sh part : Shape) (n : ℕ) → shape_at sh ss ≡ Some part → IsWithin sh n → IsWithin part n
parts_within [] sh part n e h = let d : sh ≡ part = cc in subst (λ x. IsWithin x n) d h
parts_within (s ∷ ss) sh part n e h =
    let a = then_some (shape_part sh s) _ part e in
    parts_within ss a.0 part n a.2 (part_within sh s a.0 n a.1 h)

module _ (p : Program) where
  -- ---- what unfolds in so many steps has no more levels

  -- of a type that holds no parts
  abbrev NoParts : StType-F StType → Type 0
  NoParts (StType-F.Array low high of) = ⊥
  NoParts (StType-F.Structure n) = ⊥
  NoParts (StType-F.Instance c) = ⊥
  NoParts o = Unit {0}

  simple_within : (o : StType-F StType) (n : ℕ) (sh : Shape) → simple_shape p o ≡ Some sh → IsWithin sh n
  simple_within (StType-F.Elementary e) n sh h = let d : Elementary e ≡ sh = cc in subst (λ x. IsWithin x n) d tt
  simple_within (StType-F.Enumeration k) n sh h =
      let a = then_some (slice_get p.types k) _ sh h in
      let b = then_some (values_of a.0.body) _ sh a.2 in
      let d : Enumeration a.0.name b.0 ≡ sh = let x = b.2 in cc in
      subst (λ x. IsWithin x n) d tt
  simple_within (StType-F.Reference c) n sh h = let a = mapped_some (λ k. Reference c k.name) (class_at p c) sh h in subst (λ x. IsWithin x n) a.2 tt
  simple_within (StType-F.Interface i) n sh h = let a = mapped_some (λ k. Interface i k.name) (slice_get p.interfaces i) sh h in subst (λ x. IsWithin x n) a.2 tt
  simple_within (StType-F.Array low high of) n sh h = cc
  simple_within (StType-F.Structure k) n sh h = cc
  simple_within (StType-F.Instance c) n sh h = cc

  fields_within : (f : StType → Option Shape) (n : ℕ) → ((t : StType) (sh : Shape) → f t ≡ Some sh → IsWithin sh n) → (vs : List Variable) (fs : Fields) → fields_by f vs ≡ Some fs → AreWithin fs n
  fields_within f n h [] fs e = let d : no_fields ≡ fs = cc in subst (λ x. AreWithin x n) d tt
  fields_within f n h (v ∷ vs) fs e =
      let a = then_some (f v.kind) _ fs e in
      let b = then_some (fields_by f vs) _ fs a.2 in
      let d : field_then v a.0 b.0 ≡ fs = let x = b.2 in cc in
      subst (λ x. AreWithin x n) d (h v.kind a.0 a.1, fields_within f n h vs b.0 b.1)

  by_within : (f : StType → Option Shape) (n : ℕ) → ((t : StType) (sh : Shape) → f t ≡ Some sh → IsWithin sh n) → (o : StType-F StType) (sh : Shape) → shape_by p f o ≡ Some sh → IsWithin sh (suc n)
  by_within f n h (StType-F.Array low high of) sh e =
      let a = mapped_some (Array low (extent low high)) (f of) sh e in
      subst (λ x. IsWithin x (suc n)) a.2 (h of a.0 a.1)
  by_within f n h (StType-F.Structure k) sh e =
      let a = then_some (slice_get p.types k) _ sh e in
      let b = then_some (fields_of a.0.body) _ sh a.2 in
      let c = then_some (fields_by f b.0) _ sh b.2 in
      let d : Structure a.0.name c.0 ≡ sh = let x = c.2 in cc in
      subst (λ x. IsWithin x (suc n)) d (fields_within f n h b.0 c.0 c.1)
  by_within f n h (StType-F.Instance k) sh e =
      let a = then_some (class_at p k) _ sh e in
      let b = then_some (fields_by f (class_variables p k)) _ sh a.2 in
      let d : Instance k a.0.name b.0 ≡ sh = let x = b.2 in cc in
      subst (λ x. IsWithin x (suc n)) d (fields_within f n h (class_variables p k) b.0 b.1)
  by_within f n h (StType-F.Elementary k) sh e = simple_within (StType-F.Elementary k) (suc n) sh e
  by_within f n h (StType-F.Enumeration k) sh e = simple_within (StType-F.Enumeration k) (suc n) sh e
  by_within f n h (StType-F.Reference c) sh e = simple_within (StType-F.Reference c) (suc n) sh e
  by_within f n h (StType-F.Interface i) sh e = simple_within (StType-F.Interface i) (suc n) sh e

  pub unfolded_within : (n : ℕ) (t : StType) (sh : Shape) → shape_within p n t ≡ Some sh → IsWithin sh n
  unfolded_within zero t sh e = simple_within (out-StType t) zero sh e
  unfolded_within (suc n) t sh e = by_within (shape_within p n) n (unfolded_within n) (out-StType t) sh e

  -- ---- and what has no more levels unfolds in so many steps

  -- what the one unfolds to a shape of so many levels the other unfolds alike
  record Suffices (f g : StType → Option Shape) (n : ℕ) : Type 0 where
    by : (t : StType) (sh : Shape) → f t ≡ Some sh → IsWithin sh n → g t ≡ Some sh

  fields_enough : (f g : StType → Option Shape) (n : ℕ) → Suffices f g n → (vs : List Variable) (fs : Fields) → fields_by f vs ≡ Some fs → AreWithin fs n → fields_by g vs ≡ Some fs
  fields_enough f g n h [] fs e w = e
  fields_enough f g n h (v ∷ vs) fs e w =
      let a = then_some (f v.kind) (λ sh. fields_by f vs >>= λ rest. Some (field_then v sh rest)) fs e in
      let b = then_some (fields_by f vs) (λ rest. Some (field_then v a.0 rest)) fs a.2 in
      let d : field_then v a.0 b.0 ≡ fs = let x = b.2 in cc in
      let u = subst (λ x. AreWithin x n) (sym d) w in
      ap (λ o. o >>= λ sh. fields_by g vs >>= λ rest. Some (field_then v sh rest)) (h.by v.kind a.0 a.1 u.0)
      ∙ ap (λ o. o >>= λ rest. Some (field_then v a.0 rest)) (fields_enough f g n h vs b.0 b.1 u.1)
      ∙ b.2

  by_enough : (f g : StType → Option Shape) (n : ℕ) → Suffices f g n → (o : StType-F StType) (sh : Shape) → shape_by p f o ≡ Some sh → IsWithin sh (suc n) → shape_by p g o ≡ Some sh
  by_enough f g n h (StType-F.Array low high of) sh e w =
      let a = mapped_some (Array low (extent low high)) (f of) sh e in
      let u = subst (λ x. IsWithin x (suc n)) (sym a.2) w in
      ap (option_map (Array low (extent low high))) (h.by of a.0 a.1 u) ∙ ap Some a.2
  by_enough f g n h (StType-F.Structure k) sh e w =
      let a = then_some (slice_get p.types k) (λ x. fields_of x.body >>= λ vs. fields_by f vs >>= λ fs. Some (Structure x.name fs)) sh e in
      let b = then_some (fields_of a.0.body) (λ vs. fields_by f vs >>= λ fs. Some (Structure a.0.name fs)) sh a.2 in
      let c = then_some (fields_by f b.0) (λ fs. Some (Structure a.0.name fs)) sh b.2 in
      let d : Structure a.0.name c.0 ≡ sh = let x = c.2 in cc in
      let u = subst (λ x. IsWithin x (suc n)) (sym d) w in
      ap (λ o. o >>= λ x. fields_of x.body >>= λ vs. fields_by g vs >>= λ fs. Some (Structure x.name fs)) a.1
      ∙ ap (λ o. o >>= λ vs. fields_by g vs >>= λ fs. Some (Structure a.0.name fs)) b.1
      ∙ ap (λ o. o >>= λ fs. Some (Structure a.0.name fs)) (fields_enough f g n h b.0 c.0 c.1 u)
      ∙ c.2
  by_enough f g n h (StType-F.Instance k) sh e w =
      let a = then_some (class_at p k) (λ x. fields_by f (class_variables p k) >>= λ fs. Some (Instance k x.name fs)) sh e in
      let b = then_some (fields_by f (class_variables p k)) (λ fs. Some (Instance k a.0.name fs)) sh a.2 in
      let d : Instance k a.0.name b.0 ≡ sh = let x = b.2 in cc in
      let u = subst (λ x. IsWithin x (suc n)) (sym d) w in
      ap (λ o. o >>= λ x. fields_by g (class_variables p k) >>= λ fs. Some (Instance k x.name fs)) a.1
      ∙ ap (λ o. o >>= λ fs. Some (Instance k a.0.name fs)) (fields_enough f g n h (class_variables p k) b.0 b.1 u)
      ∙ b.2
  by_enough f g n h (StType-F.Elementary k) sh e w = e
  by_enough f g n h (StType-F.Enumeration k) sh e w = e
  by_enough f g n h (StType-F.Reference c) sh e w = e
  by_enough f g n h (StType-F.Interface i) sh e w = e

  none_left : (f : StType → Option Shape) (o : StType-F StType) (sh : Shape) → shape_by p f o ≡ Some sh → IsWithin sh zero → simple_shape p o ≡ Some sh
  none_left f (StType-F.Array low high of) sh e w =
      let a = mapped_some (Array low (extent low high)) (f of) sh e in
      absurd (subst (λ x. IsWithin x zero) (sym a.2) w)
  none_left f (StType-F.Structure k) sh e w =
      let a = then_some (slice_get p.types k) _ sh e in
      let b = then_some (fields_of a.0.body) _ sh a.2 in
      let c = then_some (fields_by f b.0) _ sh b.2 in
      let d : Structure a.0.name c.0 ≡ sh = let x = c.2 in cc in
      absurd (subst (λ x. IsWithin x zero) (sym d) w)
  none_left f (StType-F.Instance k) sh e w =
      let a = then_some (class_at p k) _ sh e in
      let b = then_some (fields_by f (class_variables p k)) _ sh a.2 in
      let d : Instance k a.0.name b.0 ≡ sh = let x = b.2 in cc in
      absurd (subst (λ x. IsWithin x zero) (sym d) w)
  none_left f (StType-F.Elementary k) sh e w = e
  none_left f (StType-F.Enumeration k) sh e w = e
  none_left f (StType-F.Reference c) sh e w = e
  none_left f (StType-F.Interface i) sh e w = e

  enough : (d n : ℕ) → Suffices (shape_within p d) (shape_within p n) n
  enough zero n = record { by = λ t sh e w. let q : n + zero ≡ n = omega arith in subst (λ m. shape_within p m t ≡ Some sh) q (more_deep p n zero t sh e) }
  enough (suc d) zero = record { by = λ t sh e w. none_left (shape_within p d) (out-StType t) sh e w }
  enough (suc d) (suc n) = record { by = λ t sh e w. by_enough (shape_within p d) (shape_within p n) n (enough d n) (out-StType t) sh e w }

  -- what a type unfolds to is found within the bound where it has no more levels
  pub within_found : (n : ℕ) (t : StType) (sh : Shape) → Unfolds p t sh → IsWithin sh n → shape_within p n t ≡ Some sh
  within_found n t sh u w = (enough u.depth n).by t sh u.by w
