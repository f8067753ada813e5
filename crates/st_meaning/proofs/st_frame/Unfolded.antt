-- What types unfold to, and the shapes of parts.
use Rattle.std.proofs.Common.{◌≡◌, ℕ, zero, suc, List, [], ◌∷◌, Some, refl, sym, ap, ◌∙◌, subst}
use Rattle.std.specs.Prelude.{slice_get}
use Rattle.st_types.specs.declared.st_type.StType.{StType, out-StType}
use Rattle.st_types.specs.declared.st_type.StType.TheOpen.{StType-F}
use Rattle.st_tree.specs.declared.path.Step.{Step}
use Rattle.st_tree.specs.declared.path.Step.TheVariants as step
use Rattle.st_values.specs.Program.{Variable, Class, TypeEntry, Region, Program, class_at, class_variables}
use Rattle.st_values.specs.Value.{Path, ◌>>=◌, place_of_index}
use Rattle.st_values.specs.Shape.{Shape, Elementary, Enumeration, Reference, Interface, Array, Structure, Instance, Fields, no_fields, field_then, extent, values_of, fields_of, fields_by, field, shape_by, shape_within, shape_of, shape_part, shape_at, region_shape, path_shape}
use Rattle.st_values.specs.ShapeLaws.{Unfolds, EachUnfolds}
use Rattle.st_values.proofs.ValueLaws.{then_some}
use Rattle.st_values.proofs.ShapeLaws.{one_deeper, mapped_some}
use Rattle.st_meaning.specs.st_frame.Promise.Declarations.{Each, VariableFits}
use Rattle.st_meaning.proofs.st_frame.Values.{element_of}

module _ (p : Program) where
  -- what a type with this outside unfolds to
  abbrev pub Opened : StType-F StType → Shape → Type 0
  Opened (StType-F.Elementary e) sh = sh ≡ Elementary e
  Opened (StType-F.Enumeration n) sh = (name : List ℕ) × (values : List (List ℕ)) × (sh ≡ Enumeration name values)
  Opened (StType-F.Structure n) sh =
      (x : TypeEntry) × (vs : List Variable) × (fs : Fields) × (slice_get p.types n ≡ Some x) × (fields_of x.body ≡ Some vs) × (sh ≡ Structure x.name fs) × EachUnfolds p vs fs
  Opened (StType-F.Array low high of) sh = (part : Shape) × (sh ≡ Array low (extent low high) part) × Unfolds p of part
  Opened (StType-F.Instance c) sh = (k : Class) × (fs : Fields) × (class_at p c ≡ Some k) × (sh ≡ Instance c k.name fs) × EachUnfolds p (class_variables p c) fs
  Opened (StType-F.Reference c) sh = (name : List ℕ) × (sh ≡ Reference c name)
  Opened (StType-F.Interface i) sh = (name : List ℕ) × (sh ≡ Interface i name)

  fields_each : (n : ℕ) (vs : List Variable) (fs : Fields) → fields_by (shape_within p n) vs ≡ Some fs → EachUnfolds p vs fs
  fields_each n [] fs e = let d : no_fields ≡ fs = cc in subst (EachUnfolds p []) d tt
  fields_each n (v ∷ vs) fs e =
      let a = then_some (shape_within p n v.kind) _ fs e in
      let b = then_some (fields_by (shape_within p n) vs) _ fs a.2 in
      let d : field_then v a.0 b.0 ≡ fs = let x = b.2 in cc in
      subst (EachUnfolds p (v ∷ vs)) d (refl, record { depth = n; by = a.1 }, fields_each n vs b.0 b.1)

  opened_by : (n : ℕ) (o : StType-F StType) (sh : Shape) → shape_by p (shape_within p n) o ≡ Some sh → Opened o sh
  opened_by n (StType-F.Elementary e) sh h = let d : Elementary e ≡ sh = cc in sym d
  opened_by n (StType-F.Enumeration k) sh h =
      let a = then_some (slice_get p.types k) _ sh h in
      let b = then_some (values_of a.0.body) _ sh a.2 in
      let d : Enumeration a.0.name b.0 ≡ sh = let x = b.2 in cc in
      (a.0.name, b.0, sym d)
  opened_by n (StType-F.Structure k) sh h =
      let a = then_some (slice_get p.types k) _ sh h in
      let b = then_some (fields_of a.0.body) _ sh a.2 in
      let c = then_some (fields_by (shape_within p n) b.0) _ sh b.2 in
      let d : Structure a.0.name c.0 ≡ sh = let x = c.2 in cc in
      (a.0, b.0, c.0, a.1, b.1, sym d, fields_each n b.0 c.0 c.1)
  opened_by n (StType-F.Array low high of) sh h =
      let a = mapped_some (Array low (extent low high)) (shape_within p n of) sh h in
      (a.0, sym a.2, record { depth = n; by = a.1 })
  opened_by n (StType-F.Instance c) sh h =
      let a = then_some (class_at p c) _ sh h in
      let b = then_some (fields_by (shape_within p n) (class_variables p c)) _ sh a.2 in
      let d : Instance c a.0.name b.0 ≡ sh = let x = b.2 in cc in
      (a.0, b.0, a.1, sym d, fields_each n (class_variables p c) b.0 b.1)
  opened_by n (StType-F.Reference c) sh h = let a = mapped_some (λ k. Reference c k.name) (class_at p c) sh h in (a.0.name, sym a.2)
  opened_by n (StType-F.Interface i) sh h = let a = mapped_some (λ k. Interface i k.name) (slice_get p.interfaces i) sh h in (a.0.name, sym a.2)

  pub opened : (t : StType) (o : StType-F StType) (sh : Shape) → out-StType t ≡ o → Unfolds p t sh → Opened o sh
  opened t o sh e u = subst (λ x. Opened x sh) e (opened_by u.depth (out-StType t) sh ((one_deeper p u.depth).by t sh u.by))

  pub within_bound : (t : StType) (sh : Shape) → shape_of p t ≡ Some sh → Unfolds p t sh
  within_bound t sh e = record { depth = 65; by = e }

  -- ---- parts

  -- a variable's shape stands with it, and the other way round
  pub field_is : (vs : List Variable) (fs : Fields) (k : ℕ) (v : Variable) → EachUnfolds p vs fs → slice_get vs k ≡ Some v → (sh : Shape) × (field fs k ≡ Some sh) × Unfolds p v.kind sh
  field_is [] fs k v h e = cc
  field_is (w ∷ vs) no_fields k v h e = absurd h
  field_is (w ∷ vs) (field_then x sh fs) zero v h e = let d : w ≡ v = cc in (sh, refl, subst (λ y. Unfolds p y.kind sh) d h.1)
  field_is (w ∷ vs) (field_then x sh fs) (suc k) v h e = field_is vs fs k v h.2 e

  pub field_of : (vs : List Variable) (fs : Fields) (k : ℕ) (sh : Shape) → EachUnfolds p vs fs → field fs k ≡ Some sh → (v : Variable) × (slice_get vs k ≡ Some v) × Unfolds p v.kind sh
  field_of [] no_fields k sh h e = cc
  field_of [] (field_then x y fs) k sh h e = absurd h
  field_of (w ∷ vs) no_fields k sh h e = cc
  field_of (w ∷ vs) (field_then x y fs) zero sh h e = let d : y ≡ sh = cc in (w, refl, subst (Unfolds p w.kind) d h.1)
  field_of (w ∷ vs) (field_then x y fs) (suc k) sh h e = field_of vs fs k sh h.2 e

  -- a part of what a type unfolds to is what a type unfolds to
  abbrev OfSome : Shape → Type 0
  OfSome sh = (t : StType) × Unfolds p t sh

  fields_part : (vs : List Variable) (fs : Fields) (s : Step) (part : Shape) → EachUnfolds p vs fs → shape_part (Structure [] fs) s ≡ Some part → OfSome part
  fields_part vs fs (step.Field k) part h e = let a = field_of vs fs k part h e in (a.0.kind, a.2)
  fields_part vs fs (step.Element i) part h e = cc

  same_part : (name : List ℕ) (c : ℕ) (fs : Fields) (s : Step) (part : Shape) → shape_part (Instance c name fs) s ≡ Some part → shape_part (Structure [] fs) s ≡ Some part
  same_part name c fs (step.Field k) part e = e
  same_part name c fs (step.Element i) part e = cc

  same_field : (name : List ℕ) (fs : Fields) (s : Step) (part : Shape) → shape_part (Structure name fs) s ≡ Some part → shape_part (Structure [] fs) s ≡ Some part
  same_field name fs (step.Field k) part e = e
  same_field name fs (step.Element i) part e = cc

  part_unfolds : (o : StType-F StType) (sh : Shape) (s : Step) (part : Shape) → Opened o sh → shape_part sh s ≡ Some part → OfSome part
  part_unfolds (StType-F.Elementary e) sh s part h k = let x = subst (λ y. shape_part y s ≡ Some part) h k in cc
  part_unfolds (StType-F.Enumeration n) sh s part h k = let x = subst (λ y. shape_part y s ≡ Some part) h.2 k in cc
  part_unfolds (StType-F.Structure n) sh s part h k =
      fields_part h.1 h.2 s part h.6 (same_field h.0.name h.2 s part (subst (λ y. shape_part y s ≡ Some part) h.5 k))
  part_unfolds (StType-F.Array low high of) sh s part h k = by s (subst (λ y. shape_part y s ≡ Some part) h.1 k)
    where
      by : (r : Step) → shape_part (Array low (extent low high) h.0) r ≡ Some part → OfSome part
      by (step.Element i) e = let a = element_of p (extent low high) h.0 part (place_of_index low i) e in (of, subst (Unfolds p of) a.3 h.2)
      by (step.Field i) e = cc
  part_unfolds (StType-F.Instance c) sh s part h k =
      fields_part (class_variables p c) h.1 s part h.4 (same_part h.0.name c h.1 s part (subst (λ y. shape_part y s ≡ Some part) h.3 k))
  part_unfolds (StType-F.Reference c) sh s part h k = let x = subst (λ y. shape_part y s ≡ Some part) h.1 k in cc
  part_unfolds (StType-F.Interface i) sh s part h k = let x = subst (λ y. shape_part y s ≡ Some part) h.1 k in cc

  pub at_unfolds : (ss : List Step) (t : StType) (sh part : Shape) → Unfolds p t sh → shape_at sh ss ≡ Some part → OfSome part
  at_unfolds [] t sh part u e = let d : sh ≡ part = cc in (t, subst (Unfolds p t) d u)
  at_unfolds (s ∷ ss) t sh part u e =
      let a = then_some (shape_part sh s) _ part e in
      let b = part_unfolds (out-StType t) sh s a.0 (opened t (out-StType t) sh refl u) a.1 in
      at_unfolds ss b.0 a.0 part b.1 a.2

  region_fits : (xs : List Region) (r : ℕ) (x : Region) → Each (λ y. VariableFits p y.variable) xs → slice_get xs r ≡ Some x → VariableFits p x.variable
  region_fits [] r x h e = cc
  region_fits (y ∷ xs) zero x h e = let d : y ≡ x = cc in subst (λ z. VariableFits p z.variable) d h.0
  region_fits (y ∷ xs) (suc r) x h e = region_fits xs r x h.1 e

  module _ (regions : Each (λ y. VariableFits p y.variable) p.regions) where
    -- a region has the shape of its type
    pub region_is : (r : ℕ) (x : Region) → slice_get p.regions r ≡ Some x → (sh : Shape) × (region_shape p r ≡ Some sh) × Unfolds p x.variable.kind sh
    region_is r x e =
        let h = region_fits p.regions r x regions e in
        (h.0, ap (λ o. o >>= λ y. shape_of p y.variable.kind) e ∙ h.1, within_bound x.variable.kind h.0 h.1)

    pub path_unfolds : (q : Path) (sh : Shape) → path_shape p q ≡ Some sh → OfSome sh
    path_unfolds q sh e =
        let a = then_some (region_shape p q.region) _ sh e in
        let b = then_some (slice_get p.regions q.region) _ a.0 a.1 in
        at_unfolds q.steps b.0.variable.kind a.0 sh (within_bound b.0.variable.kind a.0 b.2) a.2

    -- the variables of an instance are those of its class
    abbrev pub OfClass : ℕ → List ℕ → Fields → Type 0
    OfClass c name fs = (k : Class) × (class_at p c ≡ Some k) × (name ≡ k.name) × EachUnfolds p (class_variables p c) fs

    pub instance_opened : (o : StType-F StType) (c : ℕ) (name : List ℕ) (fs : Fields) → Opened o (Instance c name fs) → OfClass c name fs
    instance_opened (StType-F.Elementary e) c name fs h = cc
    instance_opened (StType-F.Enumeration n) c name fs h = let x = h.2 in cc
    instance_opened (StType-F.Structure n) c name fs h = let x = h.5 in cc
    instance_opened (StType-F.Array low high of) c name fs h = let x = h.1 in cc
    instance_opened (StType-F.Instance d) c name fs h =
        let x = h.3 in
        let a : d ≡ c = cc in
        let b : h.1 ≡ fs = cc in
        let n : name ≡ h.0.name = cc in
        (h.0, subst (λ y. class_at p y ≡ Some h.0) a h.2, n, subst (λ y. EachUnfolds p (class_variables p y) fs) a (subst (EachUnfolds p (class_variables p d)) b h.4))
    instance_opened (StType-F.Reference d) c name fs h = let x = h.1 in cc
    instance_opened (StType-F.Interface i) c name fs h = let x = h.1 in cc

    pub instance_is : (q : Path) (c : ℕ) (name : List ℕ) (fs : Fields) → path_shape p q ≡ Some (Instance c name fs) → OfClass c name fs
    instance_is q c name fs e =
        let a = path_unfolds q (Instance c name fs) e in
        instance_opened (out-StType a.0) c name fs (opened a.0 (out-StType a.0) (Instance c name fs) refl a.1)
