-- A shape has no more counted values than the rules count of its type.
use Rattle.std.proofs.Common.{◌≡◌, ◌≤◌, ◌<◌, ℕ, zero, suc, ◌+◌, ◌*◌, ℤ, pos, negsuc, List, [], ◌∷◌, map, length, Option, Some, None, refl, ap, subst, arith}
use Rattle.std.specs.Prelude.{max, slice_get, ◌-ℤ◌}
use Rattle.st_types.specs.declared.st_type.StType.{StType, out-StType}
use Rattle.st_types.specs.declared.st_type.StType.TheOpen.{StType-F}
use Rattle.st_rules.specs.Scope.{Scope}
use Rattle.st_unit_rules.specs.Limits.{sum_of, field_kinds, variable_kinds, level_values, values_within}
use Rattle.st_unit_rules.specs.Worth as worth
use Rattle.st_values.specs.Program.{Variable, TypeEntry, Program, class_at, class_variables}
use Rattle.st_values.specs.Value.{◌>>=◌}
use Rattle.st_values.specs.Shape as shape
use Rattle.st_values.specs.Shape.{Shape, Elementary, Enumeration, Reference, Interface, Array, Structure, Instance, Fields, no_fields, field_then, extent, fields_of, fields_by, simple_shape, shape_by, shape_within}
use Rattle.st_values.proofs.ShapeLaws.{mapped_some}
use Rattle.st_values.proofs.ValueLaws.{then_some}
use Rattle.resolution_order.specs.told_laws.ToldLaws.{Every}
use Rattle.mem_layout.specs.loaded_meaning.Sized.{values_of, all_values_of, IsCounted, AreCounted}
use Rattle.accepted_texts.proofs.sized_units.Sizes.{at_least_one}
use Rattle.accepted_texts.proofs.sized_units.Parts.{NoEmptyArray, NoEmptyArrays}

counts_same : (z : ℤ) → shape.count_to z ≡ worth.count_to z
counts_same (pos n) = refl
counts_same (negsuc n) = refl

times : (n a b : ℕ) → a ≤ b → n * a ≤ n * b
times zero a b h = omega arith
times (suc n) a b h =
    let k = times n a b h in
    let x : suc n * a ≡ a + n * a = grind arith in
    let y : suc n * b ≡ b + n * b = grind arith in
    omega (arith, h, k, x, y)

max_grows : (a b : ℕ) → a ≤ b → max 1 a ≤ max 1 b
max_grows zero zero h = omega arith
max_grows zero (suc b) h = omega arith
max_grows (suc a) b h = let k = at_least_one (suc a) b h in omega (arith, k)

abbrev pub sums : (StType → ℕ) → List Variable → ℕ
sums f [] = 0
sums f (v ∷ vs) = f v.kind + sums f vs

module _ (s : Scope) (p : Program) (G : StType → Type 0) where
  abbrev pub EachKind : List Variable → Type 0
  EachKind vs = Every (λ (v : Variable). G v.kind) vs

  -- fields and variables of the program are no more than the unit's
  pub record Sums (vs : List Variable) (kinds : List StType) : Type 0 where
    pub each : EachKind vs
    pub sum : (f : StType → ℕ) → sums f vs ≤ sum_of s (map f kinds)

  -- types of the unit, and what the program has of them
  pub record Keeps : Type 0 where
    pub element : (t of : StType) (low high : ℤ) → out-StType t ≡ StType-F.Array low high of → G t → (0 < extent low high) × G of
    pub enumeration : (t : StType) (n : ℕ) (x : TypeEntry) (values : List (List ℕ)) → out-StType t ≡ StType-F.Enumeration n → G t → slice_get p.types n ≡ Some x → shape.values_of x.body ≡ Some values → length values ≤ 4294967296
    pub structure : (t : StType) (n : ℕ) (x : TypeEntry) (vs : List Variable) → out-StType t ≡ StType-F.Structure n → G t → slice_get p.types n ≡ Some x → fields_of x.body ≡ Some vs → Sums vs (field_kinds s n)
    pub instance : (t : StType) (c : ℕ) → out-StType t ≡ StType-F.Instance c → G t → Sums (class_variables p c) (variable_kinds s c)
    pub class : (t : StType) (c : ℕ) → out-StType t ≡ StType-F.Instance c → G t → c < 4294967296

  pub record Within (n : ℕ) (sh : Shape) : Type 0 where
    pub values : values_of sh ≤ n
    pub filled : NoEmptyArray sh
    pub counted : IsCounted sh

  pub record AllWithin (n : ℕ) (fs : Fields) : Type 0 where
    pub values : all_values_of fs ≤ n
    pub filled : NoEmptyArrays fs
    pub counted : AreCounted fs

  within_same : (n : ℕ) (a b : Shape) → a ≡ b → Within n a → Within n b
  within_same n a b e h = subst (Within n) e h

  pub fields_within : (f : StType → Option Shape) (F : StType → ℕ) → ((t : StType) (sh : Shape) → G t → f t ≡ Some sh → Within (F t) sh) → (vs : List Variable) (fs : Fields) → EachKind vs → fields_by f vs ≡ Some fs → AllWithin (sums F vs) fs
  fields_within f F below [] fs h e = subst (AllWithin 0) (let q : no_fields ≡ fs = cc in q) (record { values = omega arith; filled = tt; counted = tt })
  fields_within f F below (v ∷ vs) fs h e =
      let a = then_some (f v.kind) (λ sh. fields_by f vs >>= λ rest. Some (field_then v sh rest)) fs e in
      let b = then_some (fields_by f vs) (λ rest. Some (field_then v a.0 rest)) fs a.2 in
      let one = below v.kind a.0 h.0 a.1 in
      let rest = fields_within f F below vs b.0 h.1 b.1 in
      let q : field_then v a.0 b.0 ≡ fs = let k = b.2 in cc in
      let i = one.values in
      let j = rest.values in
      subst (AllWithin (F v.kind + sums F vs)) q (record { values = omega (arith, i, j); filled = (one.filled, rest.filled); counted = (one.counted, rest.counted) })

  module _ (keeps : Keeps) where
    simple_within : (t : StType) (n : ℕ) (sh : Shape) → out-StType t ≡ StType-F.Enumeration n → G t → simple_shape p (StType-F.Enumeration n) ≡ Some sh → Within 1 sh
    simple_within t n sh q g e =
        let a = then_some (slice_get p.types n) (λ x. shape.values_of x.body >>= λ values. Some (Enumeration x.name values)) sh e in
        let b = then_some (shape.values_of a.0.body) (λ values. Some (Enumeration a.0.name values)) sh a.2 in
        let k : Enumeration a.0.name b.0 ≡ sh = let h = b.2 in cc in
        let few = keeps.enumeration t n a.0 b.0 q g a.1 b.1 in
        subst (Within 1) k (record { values = omega arith; filled = tt; counted = few })

    one_within : (sh : Shape) (k : Shape) → k ≡ sh → values_of k ≤ 1 → NoEmptyArray k → IsCounted k → Within 1 sh
    one_within sh k e v f c = subst (Within 1) e (record { values = v; filled = f; counted = c })

    elementary_within : (e : _) (sh : Shape) → Some (Elementary e) ≡ Some sh → Within 1 sh
    elementary_within e sh h = one_within sh (Elementary e) (let q : Elementary e ≡ sh = cc in q) (omega arith) tt tt

    reference_within : (c : ℕ) (sh : Shape) → simple_shape p (StType-F.Reference c) ≡ Some sh → Within 1 sh
    reference_within c sh e = let a = mapped_some (λ k. Reference c k.name) (class_at p c) sh e in one_within sh (Reference c a.0.name) a.2 (omega arith) tt tt

    interface_within : (i : ℕ) (sh : Shape) → simple_shape p (StType-F.Interface i) ≡ Some sh → Within 1 sh
    interface_within i sh e = let a = mapped_some (λ k. Interface i k.name) (slice_get p.interfaces i) sh e in one_within sh (Interface i a.0.name) a.2 (omega arith) tt tt

    none_simple : (sh : Shape) (X : Type 0) → None ≡ Some sh → X
    none_simple sh X e = absurd (cc)

    lowest : (t : StType) (o : StType-F StType) (sh : Shape) → out-StType t ≡ o → G t → simple_shape p o ≡ Some sh → Within (level_values s (values_within s zero) o) sh
    lowest t (StType-F.Elementary e) sh q g h = elementary_within e sh h
    lowest t (StType-F.Enumeration n) sh q g h = simple_within t n sh q g h
    lowest t (StType-F.Reference c) sh q g h = reference_within c sh h
    lowest t (StType-F.Interface i) sh q g h = interface_within i sh h
    lowest t (StType-F.Array low high of) sh q g h = none_simple sh _ h
    lowest t (StType-F.Structure n) sh q g h = none_simple sh _ h
    lowest t (StType-F.Instance c) sh q g h = none_simple sh _ h

    level : (n : ℕ) → ((t : StType) (sh : Shape) → G t → shape_within p n t ≡ Some sh → Within (values_within s (suc n) t) sh) → (t : StType) (o : StType-F StType) (sh : Shape) → out-StType t ≡ o → G t
        → shape_by p (shape_within p n) o ≡ Some sh → Within (level_values s (values_within s (suc n)) o) sh
    level n below t (StType-F.Elementary e) sh q g h = elementary_within e sh h
    level n below t (StType-F.Enumeration k) sh q g h = simple_within t k sh q g h
    level n below t (StType-F.Reference c) sh q g h = reference_within c sh h
    level n below t (StType-F.Interface i) sh q g h = interface_within i sh h
    level n below t (StType-F.Array low high of) sh q g h =
        let a = mapped_some (Array low (extent low high)) (shape_within p n of) sh h in
        let element = keeps.element t of low high q g in
        let one = below of a.0 element.1 a.1 in
        let bound = values_within s (suc n) of in
        let k = times (extent low high) (values_of a.0) bound one.values in
        let l : extent low high * bound ≡ worth.count_to (high -ℤ low) * bound = ap (λ m. m * bound) (counts_same (high -ℤ low)) in
        subst (Within (worth.count_to (high -ℤ low) * bound)) a.2 (record { values = subst (λ m. extent low high * values_of a.0 ≤ m) l k; filled = (element.0, one.filled); counted = one.counted })
    level n below t (StType-F.Structure m) sh q g h =
        let a = then_some (slice_get p.types m) (λ x. fields_of x.body >>= λ vs. fields_by (shape_within p n) vs >>= λ fields. Some (Structure x.name fields)) sh h in
        let b = then_some (fields_of a.0.body) (λ vs. fields_by (shape_within p n) vs >>= λ fields. Some (Structure a.0.name fields)) sh a.2 in
        let c = then_some (fields_by (shape_within p n) b.0) (λ fields. Some (Structure a.0.name fields)) sh b.2 in
        let k : Structure a.0.name c.0 ≡ sh = let i = c.2 in cc in
        let has = keeps.structure t m a.0 b.0 q g a.1 b.1 in
        let all = fields_within (shape_within p n) (values_within s (suc n)) below b.0 c.0 has.each c.1 in
        let i = all.values in
        let j = has.sum (values_within s (suc n)) in
        let sum = sum_of s (map (values_within s (suc n)) (field_kinds s m)) in
        subst (Within (max 1 sum)) k (record { values = max_grows (all_values_of c.0) sum (omega (arith, i, j)); filled = all.filled; counted = all.counted })
    level n below t (StType-F.Instance m) sh q g h =
        let a = then_some (class_at p m) (λ k. fields_by (shape_within p n) (class_variables p m) >>= λ fields. Some (Instance m k.name fields)) sh h in
        let c = then_some (fields_by (shape_within p n) (class_variables p m)) (λ fields. Some (Instance m a.0.name fields)) sh a.2 in
        let k : Instance m a.0.name c.0 ≡ sh = let i = c.2 in cc in
        let has = keeps.instance t m q g in
        let all = fields_within (shape_within p n) (values_within s (suc n)) below (class_variables p m) c.0 has.each c.1 in
        let i = all.values in
        let j = has.sum (values_within s (suc n)) in
        subst (Within (suc (sum_of s (map (values_within s (suc n)) (variable_kinds s m))))) k (record { values = omega (arith, i, j); filled = all.filled; counted = (keeps.class t m q g, all.counted) })

    -- a shape that is found with so many levels has at most the values that are counted with one more
    pub counted : (n : ℕ) (t : StType) (sh : Shape) → G t → shape_within p n t ≡ Some sh → Within (values_within s (suc n) t) sh
    counted zero t sh g h = lowest t (out-StType t) sh refl g h
    counted (suc n) t sh g h = level n (counted n) t (out-StType t) sh refl g h
