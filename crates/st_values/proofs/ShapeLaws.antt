-- A deeper look unfolds a type to the same shape.
use Rattle.std.proofs.Common.{◌≡◌, ℕ, zero, suc, ◌+◌, List, [], ◌∷◌, Option, Some, None, refl, sym, ap, ◌∙◌, subst, arith}
use Rattle.std.specs.Prelude.{slice_get, option_map}
use Rattle.st_types.specs.declared.st_type.StType.{StType, out-StType}
use Rattle.st_types.specs.declared.st_type.StType.TheVariants as type
use Rattle.st_types.specs.declared.st_type.StType.TheOpen.{StType-F}
use Rattle.st_values.specs.Program.{Variable, Class, TypeEntry, Program, class_at, class_variables}
use Rattle.st_values.specs.Value.{◌>>=◌}
use Rattle.st_values.specs.Shape.{Shape, Elementary, Enumeration, Reference, Interface, Array, Structure, Instance, Fields, no_fields, field_then, extent, values_of, fields_of, fields_by, simple_shape, shape_by, shape_within}
use Rattle.st_values.specs.ShapeLaws.{Unfolds, EachUnfolds, ShapeLaws}
use Rattle.st_values.proofs.ValueLaws.{then_some, one_some}

-- what the one unfolds the other unfolds alike
pub record Grows (f g : StType → Option Shape) : Type 0 where
  pub by : (t : StType) (sh : Shape) → f t ≡ Some sh → g t ≡ Some sh

pub mapped_some : {A B : Type 0} (h : A → B) (o : Option A) (b : B) → option_map h o ≡ Some b → (a : A) × (o ≡ Some a) × (h a ≡ b)
mapped_some h None b e = cc
mapped_some h (Some a) b e = (a, refl, cc)

fields_grow : (f g : StType → Option Shape) → Grows f g → (vs : List Variable) (fs : Fields) → fields_by f vs ≡ Some fs → fields_by g vs ≡ Some fs
fields_grow f g h [] fs e = e
fields_grow f g h (v ∷ vs) fs e =
    let a = then_some (f v.kind) (λ sh. fields_by f vs >>= λ rest. Some (field_then v sh rest)) fs e in
    let b = then_some (fields_by f vs) (λ rest. Some (field_then v a.0 rest)) fs a.2 in
    ap (λ o. o >>= λ sh. fields_by g vs >>= λ rest. Some (field_then v sh rest)) (h.by v.kind a.0 a.1)
    ∙ ap (λ o. o >>= λ rest. Some (field_then v a.0 rest)) (fields_grow f g h vs b.0 b.1)
    ∙ b.2

simple_stays : (p : Program) (f : StType → Option Shape) (t : StType-F StType) (sh : Shape) → simple_shape p t ≡ Some sh → shape_by p f t ≡ Some sh
simple_stays p f (StType-F.Elementary e) sh h = h
simple_stays p f (StType-F.Enumeration n) sh h = h
simple_stays p f (StType-F.Structure n) sh h = cc
simple_stays p f (StType-F.Array low high of) sh h = cc
simple_stays p f (StType-F.Instance c) sh h = cc
simple_stays p f (StType-F.Reference c) sh h = h
simple_stays p f (StType-F.Interface i) sh h = h

shapes_grow : (p : Program) (f g : StType → Option Shape) → Grows f g → (t : StType-F StType) (sh : Shape) → shape_by p f t ≡ Some sh → shape_by p g t ≡ Some sh
shapes_grow p f g h (StType-F.Elementary e) sh k = k
shapes_grow p f g h (StType-F.Enumeration n) sh k = k
shapes_grow p f g h (StType-F.Structure n) sh k =
    let a = then_some (slice_get p.types n) (λ x. fields_of x.body >>= λ vs. fields_by f vs >>= λ fs. Some (Structure x.name fs)) sh k in
    let b = then_some (fields_of a.0.body) (λ vs. fields_by f vs >>= λ fs. Some (Structure a.0.name fs)) sh a.2 in
    let c = then_some (fields_by f b.0) (λ fs. Some (Structure a.0.name fs)) sh b.2 in
    ap (λ o. o >>= λ x. fields_of x.body >>= λ vs. fields_by g vs >>= λ fs. Some (Structure x.name fs)) a.1
    ∙ ap (λ o. o >>= λ vs. fields_by g vs >>= λ fs. Some (Structure a.0.name fs)) b.1
    ∙ ap (λ o. o >>= λ fs. Some (Structure a.0.name fs)) (fields_grow f g h b.0 c.0 c.1)
    ∙ c.2
shapes_grow p f g h (StType-F.Array low high of) sh k =
    let a = mapped_some (Array low (extent low high)) (f of) sh k in
    ap (option_map (Array low (extent low high))) (h.by of a.0 a.1) ∙ ap Some a.2
shapes_grow p f g h (StType-F.Instance c) sh k =
    let a = then_some (class_at p c) (λ x. fields_by f (class_variables p c) >>= λ fs. Some (Instance c x.name fs)) sh k in
    let b = then_some (fields_by f (class_variables p c)) (λ fs. Some (Instance c a.0.name fs)) sh a.2 in
    ap (λ o. o >>= λ x. fields_by g (class_variables p c) >>= λ fs. Some (Instance c x.name fs)) a.1
    ∙ ap (λ o. o >>= λ fs. Some (Instance c a.0.name fs)) (fields_grow f g h (class_variables p c) b.0 b.1)
    ∙ b.2
shapes_grow p f g h (StType-F.Reference c) sh k = k
shapes_grow p f g h (StType-F.Interface i) sh k = k

pub one_deeper : (p : Program) (n : ℕ) → Grows (shape_within p n) (shape_within p (suc n))
one_deeper p zero = record { by = λ t sh e. simple_stays p (shape_within p zero) (out-StType t) sh e }
one_deeper p (suc n) = record { by = λ t sh e. shapes_grow p (shape_within p n) (shape_within p (suc n)) (one_deeper p n) (out-StType t) sh e }

pub more_deep : (p : Program) (k n : ℕ) (t : StType) (sh : Shape) → shape_within p n t ≡ Some sh → shape_within p (k + n) t ≡ Some sh
more_deep p zero n t sh e = let q : n ≡ 0 + n = omega arith in subst (λ m. shape_within p m t ≡ Some sh) q e
more_deep p (suc k) n t sh e =
    let q : suc (k + n) ≡ suc k + n = omega arith in
    subst (λ m. shape_within p m t ≡ Some sh) q ((one_deeper p (k + n)).by t sh (more_deep p k n t sh e))

once : (p : Program) (t : StType) (a b : Shape) → Unfolds p t a → Unfolds p t b → a ≡ b
once p t a b u w =
    let x = more_deep p w.depth u.depth t a u.by in
    let y = more_deep p u.depth w.depth t b w.by in
    let q : u.depth + w.depth ≡ w.depth + u.depth = omega arith in
    one_some (shape_within p (w.depth + u.depth) t) a b x (subst (λ m. shape_within p m t ≡ Some b) q y)

grown : (p : Program) (k n : ℕ) → Grows (shape_within p n) (shape_within p (k + n))
grown p k n = record { by = more_deep p k n }

grown_left : (p : Program) (n k : ℕ) → Grows (shape_within p n) (shape_within p (n + k))
grown_left p n k = let q : k + n ≡ n + k = omega arith in subst (λ m. Grows (shape_within p n) (shape_within p m)) q (grown p k n)

-- some depth serves for all variables
each_deep : (p : Program) (vs : List Variable) (fs : Fields) → EachUnfolds p vs fs → (n : ℕ) × (fields_by (shape_within p n) vs ≡ Some fs)
each_deep p [] no_fields h = (0, refl)
each_deep p [] (field_then w sh fs) h = absurd h
each_deep p (v ∷ vs) no_fields h = absurd h
each_deep p (v ∷ vs) (field_then w sh fs) h =
    let n = h.1.depth in
    let r = each_deep p vs fs h.2 in
    let deep = r.0 + n in (
      deep,
      ap (λ o. o >>= λ s. fields_by (shape_within p deep) vs >>= λ rest. Some (field_then v s rest)) ((grown p r.0 n).by v.kind sh h.1.by)
          ∙ ap (λ o. o >>= λ rest. Some (field_then v sh rest)) (fields_grow (shape_within p r.0) (shape_within p deep) (grown_left p r.0 n) vs fs r.1)
          ∙ ap (λ x. Some (field_then x sh fs)) (sym h.0),
    )

-- at one level
opened : (p : Program) (n : ℕ) (t : StType) (o : StType-F StType) (sh : Shape) → out-StType t ≡ o → shape_by p (shape_within p n) o ≡ Some sh → Unfolds p t sh
opened p n t o sh e h = record { depth = suc n; by = ap (shape_by p (shape_within p n)) e ∙ h }

structure_unfolds : (p : Program) (n : ℕ) (x : TypeEntry) (vs : List Variable) (fs : Fields) → slice_get p.types n ≡ Some x → fields_of x.body ≡ Some vs → EachUnfolds p vs fs → Unfolds p (type.Structure n) (Structure x.name fs)
structure_unfolds p n x vs fs e k h =
    let d = each_deep p vs fs h in
    opened p d.0 (type.Structure n) (StType-F.Structure n) (Structure x.name fs) (type.outs-Structure n)
    (ap (λ o. o >>= λ y. fields_of y.body >>= λ ws. fields_by (shape_within p d.0) ws >>= λ gs. Some (Structure y.name gs)) e
    ∙ ap (λ o. o >>= λ ws. fields_by (shape_within p d.0) ws >>= λ gs. Some (Structure x.name gs)) k
    ∙ ap (λ o. o >>= λ gs. Some (Structure x.name gs)) d.1)

instance_unfolds : (p : Program) (c : ℕ) (k : Class) (fs : Fields) → class_at p c ≡ Some k → EachUnfolds p (class_variables p c) fs → Unfolds p (type.Instance c) (Instance c k.name fs)
instance_unfolds p c k fs e h =
    let d = each_deep p (class_variables p c) fs h in
    opened p d.0 (type.Instance c) (StType-F.Instance c) (Instance c k.name fs) (type.outs-Instance c)
    (ap (λ o. o >>= λ y. fields_by (shape_within p d.0) (class_variables p c) >>= λ gs. Some (Instance c y.name gs)) e
    ∙ ap (λ o. o >>= λ gs. Some (Instance c k.name gs)) d.1)

pub shape_laws : ShapeLaws
shape_laws = record {
  deeper = λ p n t sh e. (one_deeper p n).by t sh e;
  once = once;
  elementary = λ p e. opened p 0 (type.Elementary e) (StType-F.Elementary e) (Elementary e) (type.outs-Elementary e) refl;
  enumeration = λ p n x values e k.
      opened p 0 (type.Enumeration n) (StType-F.Enumeration n) (Enumeration x.name values) (type.outs-Enumeration n)
      (ap (λ o. o >>= λ y. values_of y.body >>= λ ws. Some (Enumeration y.name ws)) e ∙ ap (λ o. o >>= λ ws. Some (Enumeration x.name ws)) k);
  reference = λ p c k e. opened p 0 (type.Reference c) (StType-F.Reference c) (Reference c k.name) (type.outs-Reference c) (ap (option_map (λ y. Reference c y.name)) e);
  interface = λ p i k e. opened p 0 (type.Interface i) (StType-F.Interface i) (Interface i k.name) (type.outs-Interface i) (ap (option_map (λ y. Interface i y.name)) e);
  array = λ p low high t sh u.
      opened p u.depth (type.Array low high t) (StType-F.Array low high t) (Array low (extent low high) sh) (type.outs-Array low high t) (ap (option_map (Array low (extent low high))) u.by);
  structure = structure_unfolds;
  instance = instance_unfolds;
}
