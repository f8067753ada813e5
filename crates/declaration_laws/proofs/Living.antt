-- No class with an instance is abstract: no variable, region or field has an instance of one.
use Rattle.std.proofs.Common.{◌≡◌, ℕ, zero, suc, ℤ, Bool, true, false, List, [], ◌∷◌, Option, Some, None, refl, sym, ap, ◌∙◌, subst, ◌⊎◌, inl, inr}
use Rattle.std.specs.Prelude.{slice_get, nat_lt, if◌then◌else◌}
use Rattle.st_types.specs.declared.st_type.StType.{StType, out-StType}
use Rattle.st_types.specs.declared.st_type.StType.TheVariants as type
use Rattle.st_types.specs.declared.st_type.StType.TheOpen.{StType-F}
use Rattle.st_types.specs.declared.st_type.StType.TheFolds.{fold-roll-StType}
use Rattle.st_tree.specs.declared.path.Step.{Step}
use Rattle.st_tree.specs.declared.path.Step.TheVariants as step
use Rattle.st_tree.specs.declared.unit.Decl.{Decl}
use Rattle.st_rules.specs.Classes.{classes_in}
use Rattle.st_rules.specs.Kinds.{holds_instances, holds_instances-Instance, holds_instances-Array}
use Rattle.st_rules.proofs.Booleans.{none≢some, some-same, true≢false}
use Rattle.st_unit_rules.specs.VariableRules.{class_held, is_abstract_class}
use Rattle.st_values.specs.Program as seen
use Rattle.st_values.specs.Program.{Variable, Class, Program, class_at, class_variables}
use Rattle.st_values.specs.Shape as shape
use Rattle.st_values.specs.Shape.{Shape, Fields, no_fields, field_then, fields_by, fields_of, shape_by, shape_within, simple_shape, element_shape, shape_part, shape_at, region_shape, field, extent}
use Rattle.st_values.specs.Value.{place_of_index, ◌>>=◌}
use Rattle.st_values.proofs.ShapeLaws.{mapped_some}
use Rattle.st_values.proofs.ValueLaws.{then_some}
use Rattle.st_meaning.specs.st_frame.Footprint.{Has}
use Rattle.st_meaning.specs.st_frame.Promise.Calls.{HasInstance}
use Rattle.accepted_texts.proofs.sized_units.Depths.{type_is}
use Rattle.constant_laws.specs.Given.{IsPart}

pub held-Instance : (n : ℕ) → class_held (type.Instance n) ≡ Some n
unfolding class_held
held-Instance n = ap class_held (sym (type.rolls-Instance n)) ∙ fold-roll-StType (Option ℕ) _ (StType-F.Instance n)

held-Array : (low high : ℤ) (t : StType) → class_held (type.Array low high t) ≡ class_held t
unfolding class_held
held-Array low high t = ap class_held (sym (type.rolls-Array low high t)) ∙ fold-roll-StType (Option ℕ) _ (StType-F.Array low high t)

module _ (decls : List (Decl ℕ)) where
  -- no class of this number is abstract
  abbrev pub Lives : Option ℕ → Type 0
  Lives o = is_abstract_class (classes_in decls) o ≡ false

  -- it holds no instance, or one of a class that is not abstract
  abbrev pub TypeLives : StType → Type 0
  TypeLives t = (holds_instances t ≡ false) ⊎ Lives (class_held t)

  abbrev mutual
    pub AllLive : Shape → Type 0
    AllLive (shape.Array low n sh) = AllLive sh
    AllLive (shape.Structure name fs) = EachLive fs
    AllLive (shape.Instance c name fs) = Lives (Some c) × EachLive fs
    AllLive _ = Unit {0}

    pub EachLive : Fields → Type 0
    EachLive no_fields = Unit {0}
    EachLive (field_then v sh fs) = AllLive sh × EachLive fs

  -- ---- paths

  field_lives : (fs : Fields) (k : ℕ) (sh : Shape) → EachLive fs → field fs k ≡ Some sh → AllLive sh
  field_lives no_fields k sh h e = absurd (none≢some e)
  field_lives (field_then v x fs) zero sh h e = subst AllLive (some-same e) h.0
  field_lives (field_then v x fs) (suc k) sh h e = field_lives fs k sh h.1 e

  element_lives : (n : ℕ) (x : Shape) (o : Option ℕ) (sh : Shape) → AllLive x → element_shape n x o ≡ Some sh → AllLive sh
  element_lives n x None sh h e = absurd (none≢some e)
  element_lives n x (Some k) sh h e = by (nat_lt k n) e
    where
      by : (b : Bool) → (if b then Some x else None) ≡ Some sh → AllLive sh
      by true q = subst AllLive (some-same q) h
      by false q = absurd (none≢some q)

  part_lives : (x : Shape) (s : Step) (sh : Shape) → AllLive x → shape_part x s ≡ Some sh → AllLive sh
  part_lives (shape.Array low n x) (step.Element i) sh h e = element_lives n x (place_of_index low i) sh h e
  part_lives (shape.Structure name fs) (step.Field k) sh h e = field_lives fs k sh h e
  part_lives (shape.Instance c name fs) (step.Field k) sh h e = field_lives fs k sh h.1 e
  part_lives _ _ sh h e = absurd (none≢some e)

  at_lives : (ss : List Step) (x sh : Shape) → AllLive x → shape_at x ss ≡ Some sh → AllLive sh
  at_lives [] x sh h e = subst AllLive (some-same e) h
  at_lives (s ∷ ss) x sh h e = let a = then_some (shape_part x s) (λ y. shape_at y ss) sh e in at_lives ss a.0 sh (part_lives x s a.0 h a.1) a.2

  -- ---- shapes

  module _ (pp : Program) (parts : (t : StType) (v : Variable) → IsPart pp t v → TypeLives v.kind) where
    element_type_lives : (t of : StType) (low high : ℤ) → out-StType t ≡ StType-F.Array low high of → TypeLives t → TypeLives of
    element_type_lives t of low high q h =
        let same : t ≡ type.Array low high of = type_is t (StType-F.Array low high of) q ∙ type.rolls-Array low high of in
        elim h [
          | inl a ↦ inl (sym (ap holds_instances same ∙ holds_instances-Array low high of) ∙ a)
          | inr a ↦ inr (subst Lives (ap class_held same ∙ held-Array low high of) a)
        ]

    instance_type_lives : (t : StType) (c : ℕ) → out-StType t ≡ StType-F.Instance c → TypeLives t → Lives (Some c)
    instance_type_lives t c q h =
        let same : t ≡ type.Instance c = type_is t (StType-F.Instance c) q ∙ type.rolls-Instance c in
        elim h [
          | inl a ↦ absurd (true≢false (sym (ap holds_instances same ∙ holds_instances-Instance c) ∙ a))
          | inr a ↦ subst Lives (ap class_held same ∙ held-Instance c) a
        ]

    fields_live : (f : StType → Option Shape) → ((t : StType) (sh : Shape) → TypeLives t → f t ≡ Some sh → AllLive sh) → (t : StType) (vs : List Variable) → ((v : Variable) → Has vs v → IsPart pp t v) → (fs : Fields) → fields_by f vs ≡ Some fs → EachLive fs
    fields_live f below t [] h fs e = subst EachLive (some-same e) tt
    fields_live f below t (v ∷ vs) h fs e =
        let a = then_some (f v.kind) (λ sh. fields_by f vs >>= λ rest. Some (field_then v sh rest)) fs e in
        let b = then_some (fields_by f vs) (λ rest. Some (field_then v a.0 rest)) fs a.2 in
        subst EachLive (some-same b.2) (below v.kind a.0 (parts t v (h v (inl refl))) a.1, fields_live f below t vs (λ w k. h w (inr k)) b.0 b.1)

    simple_lives : (o : StType-F StType) (sh : Shape) → simple_shape pp o ≡ Some sh → AllLive sh
    simple_lives (StType-F.Elementary e) sh q = subst AllLive (some-same q) tt
    simple_lives (StType-F.Enumeration n) sh q =
        let a = then_some (slice_get pp.types n) (λ t. shape.values_of t.body >>= λ vs. Some (shape.Enumeration t.name vs)) sh q in
        let b = then_some (shape.values_of (a.0).body) (λ vs. Some (shape.Enumeration (a.0).name vs)) sh a.2 in
        subst AllLive (some-same b.2) tt
    simple_lives (StType-F.Reference c) sh q = let m = mapped_some (λ (k : Class). shape.Reference c k.name) (class_at pp c) sh q in subst AllLive m.2 tt
    simple_lives (StType-F.Interface i) sh q = let m = mapped_some (λ (k : seen.Interface). shape.Interface i k.name) (slice_get pp.interfaces i) sh q in subst AllLive m.2 tt
    simple_lives _ sh q = absurd (none≢some q)

    level_lives : (f : StType → Option Shape) → ((t : StType) (sh : Shape) → TypeLives t → f t ≡ Some sh → AllLive sh) → (t : StType) (o : StType-F StType) (sh : Shape) → out-StType t ≡ o → TypeLives t → shape_by pp f o ≡ Some sh → AllLive sh
    level_lives f below t (StType-F.Array low high of) sh q h e =
        let m = mapped_some (shape.Array low (extent low high)) (f of) sh e in
        subst AllLive m.2 (below of m.0 (element_type_lives t of low high q h) m.1)
    level_lives f below t (StType-F.Structure n) sh q h e =
        let a = then_some (slice_get pp.types n) (λ x. fields_of x.body >>= λ vs. fields_by f vs >>= λ fields. Some (shape.Structure x.name fields)) sh e in
        let b = then_some (fields_of (a.0).body) (λ vs. fields_by f vs >>= λ fields. Some (shape.Structure (a.0).name fields)) sh a.2 in
        let c = then_some (fields_by f b.0) (λ fields. Some (shape.Structure (a.0).name fields)) sh b.2 in
        subst AllLive (some-same c.2) (fields_live f below (type.Structure n) b.0 (λ v k. (a.0, b.0, a.1, b.1, k)) c.0 c.1)
    level_lives f below t (StType-F.Instance c) sh q h e =
        let a = then_some (class_at pp c) (λ k. fields_by f (class_variables pp c) >>= λ fields. Some (shape.Instance c k.name fields)) sh e in
        let b = then_some (fields_by f (class_variables pp c)) (λ fields. Some (shape.Instance c (a.0).name fields)) sh a.2 in
        subst AllLive (some-same b.2) (instance_type_lives t c q h, fields_live f below (type.Instance c) (class_variables pp c) (λ v k. k) b.0 b.1)
    level_lives f below t (StType-F.Elementary e) sh q h g = simple_lives (StType-F.Elementary e) sh g
    level_lives f below t (StType-F.Enumeration n) sh q h g = simple_lives (StType-F.Enumeration n) sh g
    level_lives f below t (StType-F.Reference c) sh q h g = simple_lives (StType-F.Reference c) sh g
    level_lives f below t (StType-F.Interface i) sh q h g = simple_lives (StType-F.Interface i) sh g

    pub shapes_live : (n : ℕ) (t : StType) (sh : Shape) → TypeLives t → shape_within pp n t ≡ Some sh → AllLive sh
    shapes_live zero t sh h e = simple_lives (out-StType t) sh e
    shapes_live (suc n) t sh h e = level_lives (shape_within pp n) (shapes_live n) t (out-StType t) sh refl h e

    -- where no region has an instance of an abstract class, no part of one is
    pub instance_lives : ((r : ℕ) (x : seen.Region) → slice_get pp.regions r ≡ Some x → TypeLives x.variable.kind) → (c : ℕ) → HasInstance pp c → Lives (Some c)
    instance_lives regions c h =
        let q = h.0 in
        let a = then_some (region_shape pp q.region) (λ sh. shape_at sh q.steps) (shape.Instance c h.1 h.2) h.3 in
        let b = then_some (slice_get pp.regions q.region) (λ x. shape.shape_of pp x.variable.kind) a.0 a.1 in
        (at_lives q.steps a.0 (shape.Instance c h.1 h.2) (shapes_live 65 (b.0).variable.kind a.0 (regions q.region b.0 b.1) b.2) a.2).0
