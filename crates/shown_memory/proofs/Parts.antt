-- What the shapes of places tell: each is within the bound, so that the sizes and offsets in the code are those of what is there.
use Rattle.std.proofs.Common.{◌≡◌, ℕ, zero, suc, ◌+◌, Bool, true, false, List, [], ◌∷◌, Option, Some, None, refl, sym, ap, ◌∙◌, subst}
use Rattle.std.specs.Prelude.{if◌then◌else◌, slice_get, reverse}
use Rattle.st_types.specs.declared.st_type.StType.{StType, out-StType}
use Rattle.st_types.specs.declared.st_type.StType.TheOpen.{StType-F}
use Rattle.st_types.specs.declared.st_type.StType.TheVariants as type
use Rattle.st_tree.specs.declared.path.Step.TheVariants as step
use Rattle.st_values.specs.Program.{Variable, Class, Program, class_at, class_variables, own_variables, chain_of}
use Rattle.st_values.specs.Value.{◌>>=◌}
use Rattle.st_values.specs.Shape.{Shape, Instance, Structure, Fields, no_fields, field_then, field, fields_of, shape_of, region_shape}
use Rattle.st_values.specs.ShapeLaws.{Unfolds, EachUnfolds}
use Rattle.st_values.proofs.ShapeLaws.{shape_laws}
use Rattle.st_values.proofs.ValueLaws.{then_some, one_some}
use Rattle.st_meaning.specs.State.{Spot, in_store, in_frame}
use Rattle.st_meaning.specs.Call.{is_in_out}
use Rattle.st_meaning.specs.st_frame.Promise.Programs.{ProgramIs}
use Rattle.st_meaning.specs.st_frame.Promise.Places.{FieldIs, MemberIs}
use Rattle.st_meaning.proofs.st_frame.Spots.{Meets, as_plain, as_instance}
use Rattle.st_meaning.proofs.st_frame.Unfolded.{opened, within_bound, at_unfolds, field_is, instance_opened, OfClass}
use Rattle.stack_code.specs.declared.memory.Space.TheVariants.{Regions, Locals}
use Rattle.mem_layout.specs.store_bytes.Place.{size, gap, alignment, Place, field_place, part_place, place_of, inner_place}
use Rattle.mem_layout.proofs.store_bytes.Apart.{place_laws}
use Rattle.code_rules.specs.Places.{width, size_in, offset_in, bytes_of, field_offset}
use Rattle.shown_memory.specs.Shown.{Layout, layout_at, local_place, in_layout, Located, located}
use Rattle.shown_memory.proofs.Levels.{IsWithin, AreWithin, parts_within, unfolded_within, within_found}

-- a field has a place
pub field_there : (fs : Fields) (off k : ℕ) (sh : Shape) → field fs k ≡ Some sh → (x : Place) × (field_place off fs k ≡ Some x) × (x.shape ≡ sh)
field_there no_fields off k sh e = cc
field_there (field_then v y fs) off zero sh e = let d : y ≡ sh = cc in (record { offset = off + gap (alignment y) off; shape = y }, refl, d)
field_there (field_then v y fs) off (suc k) sh e = field_there fs (off + gap (alignment y) off + size y) k sh e

no_variables : (p : Program) (o : Option Class) (k : ℕ) (v : Variable) → slice_get (own_variables p (reverse (chain_of o))) k ≡ Some v → (x : Class) × (o ≡ Some x)
no_variables p None k v e = cc
no_variables p (Some x) k v e = (x, refl)

-- a class that has a variable is there
class_there : (p : Program) (c k : ℕ) (v : Variable) → slice_get (class_variables p c) k ≡ Some v → (x : Class) × (class_at p c ≡ Some x)
unfolding class_variables
class_there p c k v e = no_variables p (class_at p c) k v e

module _ (p : Program) where
  -- ---- every place has a shape within the bound

  abbrev pub OfSome : Shape → Type 0
  OfSome sh = (t : StType) × Unfolds p t sh

  pub record Known (sh : Shape) : Type 0 where
    pub of : OfSome sh
    pub within : IsWithin sh 65

  known_part : (t : StType) (sh : Shape) (x : Place) (ss : List _) → shape_of p t ≡ Some sh → inner_place sh ss ≡ Some x → Known x.shape
  known_part t sh x ss e f =
      let at = place_laws.leads sh ss x f in
      record { of = at_unfolds p ss t sh x.shape (within_bound p t sh e) at; within = parts_within ss sh x.shape 65 at (unfolded_within p 65 t sh e) }

  local_is : (base i : ℕ) (vs : List Variable) (n : ℕ) (x : Place) → local_place p base i vs n ≡ Some x → (v : Variable) × (slice_get vs n ≡ Some v) × (shape_of p v.kind ≡ Some x.shape)
  local_is base i [] n x e = cc
  local_is base i (v ∷ vs) (suc n) x e = local_is base (i + width p v) vs n x e
  local_is base i (v ∷ vs) zero x e = by (is_in_out v.sort) e
    where
      by : (b : Bool) → (if b then None else (shape_of p v.kind >>= λ sh. Some (record { offset = i; shape = sh }))) ≡ Some x → (w : Variable) × (Some v ≡ Some w) × (shape_of p w.kind ≡ Some x.shape)
      by true q = cc
      by false q =
          let a = then_some (shape_of p v.kind) (λ sh. Some (record { offset = i; shape = sh })) x q in
          let is : record { offset = i; shape = a.0 } ≡ x = let c : Some _ ≡ Some x = a.2 in cc in
          (v, refl, a.1 ∙ ap (λ (y : Place). Some y.shape) is)

  layout_is : (base : ℕ) (o : Option Layout) (n : ℕ) (x : Place) → in_layout p base o n ≡ Some x → (v : Variable) × (shape_of p v.kind ≡ Some x.shape)
  layout_is base None n x e = cc
  layout_is base (Some k) n x e = let a = local_is base k.start k.locals n x e in (a.0, a.2)

  pub located_known : (base : ℕ) (ls : List Layout) (spot : Spot) (l : Located) → located p base ls spot ≡ Some l → Known l.shape
  located_known base ls (in_store q) l e =
      let a = then_some (place_of (region_shape p) q) _ l e in
      let b = then_some (region_shape p q.region) _ a.0 a.1 in
      let c = then_some (slice_get p.regions q.region) _ b.0 b.1 in
      let is : record { address = record { space = Regions; index = q.region; offset = a.0.offset }; shape = a.0.shape } ≡ l = let d : Some _ ≡ Some l = a.2 in cc in
      subst (λ (y : Located). Known y.shape) is (known_part c.0.variable.kind b.0 a.0 q.steps c.2 b.2)
  located_known base ls (in_frame d n ss) l e =
      let a = then_some (in_layout p base (layout_at ls d) n) _ l e in
      let b = then_some (inner_place a.0.shape ss) _ l a.2 in
      let v = layout_is base (layout_at ls d) n a.0 a.1 in
      let is : record { address = record { space = Locals; index = base + d; offset = a.0.offset + b.0.offset }; shape = b.0.shape } ≡ l = let c : Some _ ≡ Some l = b.2 in cc in
      subst (λ (y : Located). Known y.shape) is (known_part v.0.kind a.0.shape b.0 ss v.1 b.1)

  -- the size that the code takes for a type is that of the shape
  pub sized : (t : StType) (sh : Shape) → Unfolds p t sh → IsWithin sh 65 → bytes_of p t ≡ size sh
  sized t sh u w = ap size_in (within_found p 65 t sh u w)

  -- ---- parts

  -- the variables of a base lie in an instance of a class that is derived where they lie in one of the base
  record Base (vs : List Variable) (fs' : Fields) (n : ℕ) : Type 0 where
    fields : Fields
    unfolds : EachUnfolds p vs fields
    within : AreWithin fields n
    same : (off k : ℕ) (x : Place) → field_place off fields k ≡ Some x → field_place off fs' k ≡ Some x

  base_fields : (vs vs' : List Variable) (fs' : Fields) (n : ℕ) → ((k : ℕ) (v : Variable) → slice_get vs k ≡ Some v → slice_get vs' k ≡ Some v) → EachUnfolds p vs' fs' → AreWithin fs' n → Base vs fs' n
  base_fields [] vs' fs' n up h w = record { fields = no_fields; unfolds = tt; within = tt; same = λ off k x e. none off k x e }
    where
      none : (off k : ℕ) (x : Place) → None ≡ Some x → field_place off fs' k ≡ Some x
      none off k x e = cc
  base_fields (v ∷ vs) [] fs' n up h w = let e : None ≡ Some v = up zero v refl in absurd (clash v e)
    where
      clash : (v : Variable) → None ≡ Some v → ⊥
      clash v e = cc
  base_fields (v ∷ vs) (u ∷ vs') no_fields n up h w = absurd h
  base_fields (v ∷ vs) (u ∷ vs') (field_then x sh fs) n up h w =
      let e : u ≡ v = let d : Some u ≡ Some v = up zero v refl in cc in
      let rest = base_fields vs vs' fs n (λ k y q. up (suc k) y q) h.2 w.1 in
      record { fields = field_then v sh rest.fields; unfolds = (refl, subst (λ (y : Variable). Unfolds p y.kind sh) e h.1, rest.unfolds); within = (w.0, rest.within); same = λ off k y q. go rest off k y q }
    where
      go : (rest : Base vs fs n) (off k : ℕ) (y : Place) → field_place off (field_then v sh rest.fields) k ≡ Some y → field_place off (field_then x sh fs) k ≡ Some y
      go rest off zero y q = q
      go rest off (suc k) y q = rest.same (off + gap (alignment sh) off + size sh) k y q

  -- where a part of a place lies, by the type of the place
  pub record PartThere (t : StType) (k : ℕ) (sh : Shape) : Type 0 where
    pub place : Place
    pub there : part_place sh (step.Field k) ≡ Some place
    pub offset : field_offset p t k ≡ place.offset

  module _ (fine : ProgramIs p) where
    some_shape : (a b : Shape) → Some a ≡ Some b → a ≡ b
    some_shape a b e = cc

    pub structure_part : (t u : StType) (k : ℕ) (sh : Shape) → FieldIs p t k u → Meets p (Some sh) t → Known sh → PartThere t k sh
    structure_part (type.Structure n) u k sh h m known =
        let a = as_plain p fine (Some sh) (type.Structure n) tt m in
        let same = some_shape sh a.0 a.2 in
        let o = opened p (type.Structure n) (StType-F.Structure n) a.0 (type.outs-Structure n) a.1 in
        let x : o.0 ≡ h.0 = one_some (slice_get p.types n) o.0 h.0 o.3 h.2 in
        let y : o.1 ≡ h.1 = one_some (fields_of h.0.body) o.1 h.1 (subst (λ z. fields_of z.body ≡ Some o.1) x o.4) h.3 in
        let f = field_is p o.1 o.2 k h.4.0 o.6 (ap (λ z. slice_get z k) y ∙ h.4.1) in
        let g = field_there o.2 0 k f.0 f.1 in
        let whole = same ∙ o.5 in
        let part : part_place sh (step.Field k) ≡ Some g.0 = ap (λ z. part_place z (step.Field k)) whole ∙ g.1 in
        let found = within_found p 65 (type.Structure n) a.0 a.1 (subst (λ z. IsWithin z 65) same known.within) in
        record { place = g.0; there = part; offset = ap (λ o. offset_in (o >>= λ z. part_place z (step.Field k))) found ∙ ap offset_in (ap (λ z. part_place z (step.Field k)) (sym same) ∙ part) }
    structure_part t u k sh h m known = absurd h

    pub variable_part : (t u : StType) (k : ℕ) (sh : Shape) → MemberIs p t k u → Meets p (Some sh) t → Known sh → PartThere t k sh
    variable_part (type.Instance c) u k sh h m known =
        let a = as_instance p fine (Some sh) c m in
        let d = a.0 in
        let same : sh ≡ Instance d a.1 a.2 = some_shape sh (Instance d a.1 a.2) a.3 in
        let fields_known : OfClass p fine.regions d a.1 a.2 = instance_opened p fine.regions (out-StType known.of.0) d a.1 a.2 (opened p known.of.0 (out-StType known.of.0) (Instance d a.1 a.2) refl (subst (Unfolds p known.of.0) same known.of.1)) in
        let within : AreWithin a.2 64 = subst (λ z. IsWithin z 65) same known.within in
        let b = base_fields (class_variables p c) (class_variables p d) a.2 64 (λ j v e. fine.variables_above d c j v a.4 e) fields_known.3 within in
        let x = class_there p c k h.0 h.1 in
        let f = field_is p (class_variables p c) b.fields k h.0 b.unfolds h.1 in
        let g = field_there b.fields 8 k f.0 f.1 in
        let part : part_place sh (step.Field k) ≡ Some g.0 = ap (λ z. part_place z (step.Field k)) same ∙ b.same 8 k g.0 g.1 in
        let found = within_found p 65 (type.Instance c) (Instance c x.0.name b.fields) (shape_laws.instance p c x.0 b.fields x.1 b.unfolds) b.within in
        record { place = g.0; there = part; offset = ap (λ o. offset_in (o >>= λ z. part_place z (step.Field k))) found ∙ ap offset_in g.1 }
    variable_part t u k sh h m known = absurd h
