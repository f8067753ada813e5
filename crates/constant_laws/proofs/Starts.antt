-- What is given as an initial value has the shape of its type.
use Rattle.std.proofs.Common.{◌≡◌, ℕ, zero, suc, ℤ, pos, ◌<◌, Bool, true, false, List, [], ◌∷◌, ◌++◌, length, replicate, Option, Some, None, refl, sym, ap, ◌∙◌, subst, inl, inr, arith}
use Rattle.std.specs.Prelude.{slice_get, if◌then◌else◌, option_map}
use Rattle.std.proofs.lemmas.Int.{ints}
use Rattle.plc_text.specs.Words.{same}
use Rattle.st_types.specs.declared.elem.Elem.{Elem}
use Rattle.st_types.specs.declared.elem.Elem.TheVariants as elem
use Rattle.st_types.specs.declared.st_type.StType.{StType, out-StType, roll-StType, roll-out-StType}
use Rattle.st_types.specs.declared.st_type.StType.TheVariants as type
use Rattle.st_types.specs.declared.st_type.StType.TheOpen.{StType-F}
use Rattle.st_types.specs.Range.{Fits}
use Rattle.st_tree.specs.declared.program.Note.{Note}
use Rattle.st_tree.specs.Initial.{Initial, Value, Array, Fields, One, Repeated, Parts, no_parts, part_then, FieldInits, no_fields, field_then}
use Rattle.st_tree.specs.Number.{number_of}
use Rattle.st_rules.proofs.Booleans.{some-same, none≢some}
use Rattle.st_rules.specs.Chains.{◌or_else◌}
use Rattle.st_rules.specs.Kinds.{element_type}
use Rattle.st_values.specs.Initial.{number_given, listed, list_given, fields_given, given_for}
use Rattle.st_values.specs.Program.{Variable, TypeEntry, Class, Program, class_at, class_variables}
use Rattle.st_values.specs.Shape as shape
use Rattle.st_values.specs.Shape.{Shape, fields_of, values_of, fields_by, shape_by, shape_within, extent}
use Rattle.st_values.specs.Value.{◌>>=◌}
use Rattle.st_values.proofs.ValueLaws.{then_some}
use Rattle.st_meaning.specs.st_frame.Footprint.{Has}
use Rattle.st_meaning.specs.st_frame.Good.{Fit}
use Rattle.st_meaning.specs.st_frame.Promise.Types.{NumberIs}
use Rattle.st_meaning.specs.st_frame.Promise.Declarations.{StartsRight, StartRight, Each}
use Rattle.constant_laws.specs.Given.{IsPart, InitialIs, PartsAre, FieldsAre, GivenIs, AllGiven}

zero_fits : (e : Elem) → Fits e (pos 0)
zero_fits elem.Bool = (omega (arith, ints), omega (arith, ints))
zero_fits elem.Sint = (omega (arith, ints), omega (arith, ints))
zero_fits elem.Int = (omega (arith, ints), omega (arith, ints))
zero_fits elem.Dint = (omega (arith, ints), omega (arith, ints))
zero_fits elem.Lint = (omega (arith, ints), omega (arith, ints))
zero_fits elem.Usint = (omega (arith, ints), omega (arith, ints))
zero_fits elem.Uint = (omega (arith, ints), omega (arith, ints))
zero_fits elem.Udint = (omega (arith, ints), omega (arith, ints))
zero_fits elem.Ulint = (omega (arith, ints), omega (arith, ints))
zero_fits elem.Byte = (omega (arith, ints), omega (arith, ints))
zero_fits elem.Word = (omega (arith, ints), omega (arith, ints))
zero_fits elem.Dword = (omega (arith, ints), omega (arith, ints))
zero_fits elem.Lword = (omega (arith, ints), omega (arith, ints))
zero_fits elem.Time = (omega (arith, ints), omega (arith, ints))

module _ (p : Program) (all : AllGiven p) where
  -- what is given for a field, or else what its declaration gives
  given_part : (t : StType) (v : Variable) → IsPart p t v → (gs : FieldInits Note) → FieldsAre p t gs → GivenIs p v.kind (given_for v.name gs or_else v.initial)
  given_part t v h no_fields g = all.part t v h
  given_part t v h (field_then a n i gs) g = by (same n v.name) refl (given_part t v h gs g.3)
    where
      by : (b : Bool) → same n v.name ≡ b → GivenIs p v.kind (given_for v.name gs or_else v.initial) → GivenIs p v.kind ((if b then Some i else given_for v.name gs) or_else v.initial)
      by true e k = subst (λ u. InitialIs p u i) (sym (g.1.kind v h e)) g.2
      by false e k = k

  -- a shape by the shapes of its parts, each of which starts right
  abbrev Starts : (StType → Option Shape) → Type 0
  Starts f = (t : StType) (sh : Shape) → f t ≡ Some sh → (o : Option (Initial Note)) → GivenIs p t o → StartsRight sh o

  number_starts : (e : Elem) (o : Option (Initial Note)) → GivenIs p (type.Elementary e) o → Fits e (number_given o)
  number_starts e None h = zero_fits e
  number_starts e (Some (Value x)) h = h
  number_starts e (Some (Array l ps)) h = zero_fits e
  number_starts e (Some (Fields l fs)) h = zero_fits e

  module _ (f : StType → Option Shape) (below : Starts f) where
    each_listed : (t : StType) (sh : Shape) → f t ≡ Some sh → (is : List (Initial Note)) → Each (InitialIs p t) is → Each (λ j. StartsRight sh (Some j)) is
    each_listed t sh e [] h = tt
    each_listed t sh e (i ∷ is) h = (below t sh e (Some i) h.0, each_listed t sh e is h.1)

    append_each : (t : StType) (is js : List (Initial Note)) → Each (InitialIs p t) is → Each (InitialIs p t) js → Each (InitialIs p t) (is ++ js)
    append_each t [] js h k = k
    append_each t (i ∷ is) js h k = (h.0, append_each t is js h.1 k)

    repeat_each : (t : StType) (n : ℕ) (i : Initial Note) → InitialIs p t i → Each (InitialIs p t) (replicate n i)
    repeat_each t zero i h = tt
    repeat_each t (suc n) i h = (h, repeat_each t n i h)

    listed_each : (t : StType) (ps : Parts Note) → PartsAre p (Some t) ps → Each (InitialIs p t) (listed ps)
    listed_each t no_parts h = tt
    listed_each t (part_then (One i) ps) h = (h.0, listed_each t ps h.1)
    listed_each t (part_then (Repeated l n i) ps) h = append_each t (replicate (number_of n) i) (listed ps) (repeat_each t (number_of n) i h.0) (listed_each t ps h.1)

    array_lists : (t : StType) (w : StType) → element_type t ≡ Some w → (o : Option (Initial Note)) → GivenIs p t o → Each (InitialIs p w) (list_given o)
    array_lists t w e None h = tt
    array_lists t w e (Some (Value x)) h = tt
    array_lists t w e (Some (Array l ps)) h = listed_each w ps (subst (λ q. PartsAre p q ps) e h)
    array_lists t w e (Some (Fields l fs)) h = tt

    given_fields : (t : StType) (o : Option (Initial Note)) → GivenIs p t o → FieldsAre p t (fields_given o)
    given_fields t None h = tt
    given_fields t (Some (Value x)) h = tt
    given_fields t (Some (Array l ps)) h = tt
    given_fields t (Some (Fields l fs)) h = h

    fields_start : (t : StType) (vs : List Variable) → ((v : Variable) → Has vs v → IsPart p t v) → (fs : shape.Fields) → fields_by f vs ≡ Some fs → (gs : FieldInits Note) → FieldsAre p t gs → StartRight fs gs
    fields_start t [] h fs e gs g = subst (λ x. StartRight x gs) (some-same e) tt
    fields_start t (v ∷ vs) h fs e gs g =
        let a = then_some (f v.kind) (λ sh. fields_by f vs >>= λ rest. Some (shape.field_then v sh rest)) fs e in
        let b = then_some (fields_by f vs) (λ rest. Some (shape.field_then v a.0 rest)) fs a.2 in
        subst (λ x. StartRight x gs) (some-same b.2) (below v.kind a.0 a.1 (given_for v.name gs or_else v.initial) (given_part t v (h v (inl refl)) gs g), fields_start t vs (λ w k. h w (inr k)) b.0 b.1 gs g)

    -- each variant; Array, Structure, Instance by the shapes of their parts
    array_starts : (low high : ℤ) (of : StType) (sh : Shape) → shape_by p f (StType-F.Array low high of) ≡ Some sh → (t : StType) → element_type t ≡ Some of → (o : Option (Initial Note)) → GivenIs p t o → StartsRight sh o
    array_starts low high of sh e t q o g = by (f of) refl e
      where
        by : (r : Option Shape) → f of ≡ r → option_map (shape.Array low (extent low high)) r ≡ Some sh → StartsRight sh o
        by None u v = absurd (none≢some v)
        by (Some s) u v = subst (λ x. StartsRight x o) (some-same v) (below of s u None tt, each_listed of s u (list_given o) (array_lists t of q o g))

    instance_starts : (c : ℕ) (sh : Shape) → shape_by p f (StType-F.Instance c) ≡ Some sh → (o : Option (Initial Note)) → GivenIs p (type.Instance c) o → StartsRight sh o
    instance_starts c sh e o g =
        let a = then_some (class_at p c) (λ k. fields_by f (class_variables p c) >>= λ fields. Some (shape.Instance c k.name fields)) sh e in
        let b = then_some (fields_by f (class_variables p c)) (λ fields. Some (shape.Instance c a.0.name fields)) sh a.2 in
        subst (λ x. StartsRight x o) (some-same b.2) (fields_start (type.Instance c) (class_variables p c) (λ v h. h) b.0 b.1 (fields_given o) (given_fields (type.Instance c) o g))

    structure_starts : (n : ℕ) (sh : Shape) → shape_by p f (StType-F.Structure n) ≡ Some sh → (o : Option (Initial Note)) → GivenIs p (type.Structure n) o → StartsRight sh o
    structure_starts n sh e o g =
        let a = then_some (slice_get p.types n) (λ t. fields_of t.body >>= λ vs. fields_by f vs >>= λ fields. Some (shape.Structure t.name fields)) sh e in
        let b = then_some (fields_of a.0.body) (λ vs. fields_by f vs >>= λ fields. Some (shape.Structure a.0.name fields)) sh a.2 in
        let c = then_some (fields_by f b.0) (λ fields. Some (shape.Structure a.0.name fields)) sh b.2 in
        subst (λ x. StartsRight x o) (some-same c.2) (fields_start (type.Structure n) b.0 (λ v h. (a.0, b.0, a.1, b.1, h)) c.0 c.1 (fields_given o) (given_fields (type.Structure n) o g))

  -- ---- enumerations

  first_value : (name : List ℕ) (vs : List (List ℕ)) → (v : List ℕ) × (ws : List (List ℕ)) × (vs ≡ v ∷ ws) → (k : ℕ) × (pos 0 ≡ pos k) × (k < length vs)
  first_value name vs h = (0, refl, let q : length vs ≡ suc (length h.1) = ap length h.2 in omega (arith, q))

  abbrev Listed : ℕ → Shape → Type 0
  Listed n sh = (x : TypeEntry) × (vs : List (List ℕ)) × (slice_get p.types n ≡ Some x) × (values_of x.body ≡ Some vs) × (sh ≡ shape.Enumeration x.name vs)

  enumeration_is : (n : ℕ) (sh : Shape) → Rattle.st_values.specs.Shape.simple_shape p (StType-F.Enumeration n) ≡ Some sh → Listed n sh
  enumeration_is n sh e =
      let a = then_some (slice_get p.types n) (λ t. values_of t.body >>= λ vs. Some (shape.Enumeration t.name vs)) sh e in
      let b = then_some (values_of a.0.body) (λ vs. Some (shape.Enumeration a.0.name vs)) sh a.2 in
      (a.0, b.0, a.1, b.1, sym (some-same b.2))

  fitting : (n : ℕ) (sh : Shape) (z : ℤ) → Rattle.st_values.specs.Shape.simple_shape p (StType-F.Enumeration n) ≡ Some sh → NumberIs p (type.Enumeration n) z → Fit p sh (Rattle.st_values.specs.Value.number z)
  fitting n sh z e h =
      let q : Rattle.st_values.specs.Shape.simple_shape p (StType-F.Enumeration n) ≡ Some h.0 = sym (ap (shape_by p (shape_within p 64)) (type.outs-Enumeration n)) ∙ h.1 in
      subst (λ x. Fit p x (Rattle.st_values.specs.Value.number z)) (some-same (sym q ∙ e)) h.2

  enumeration_starts : (n : ℕ) (sh : Shape) → Rattle.st_values.specs.Shape.simple_shape p (StType-F.Enumeration n) ≡ Some sh → (o : Option (Initial Note)) → GivenIs p (type.Enumeration n) o → StartsRight sh o
  enumeration_starts n sh e o g = let q = enumeration_is n sh e in by q o g
    where
      zeroth : (q : Listed n sh) (i : Option (Initial Note)) → number_given i ≡ pos 0 → StartsRight sh i
      zeroth q i h = let k = first_value q.0.name q.1 (all.values n q.0 q.1 q.2 q.3) in subst (λ x. StartsRight x i) (sym q.4) (k.0, h ∙ k.1, k.2)

      by : (q : Listed n sh) (i : Option (Initial Note)) → GivenIs p (type.Enumeration n) i → StartsRight sh i
      by q None h = zeroth q None refl
      by q (Some (Array l ps)) h = zeroth q (Some (Array l ps)) refl
      by q (Some (Fields l fs)) h = zeroth q (Some (Fields l fs)) refl
      by q (Some (Value x)) h = subst (λ y. StartsRight y (Some (Value x))) (sym q.4) (subst (λ y. Fit p y (Rattle.st_values.specs.Value.number (number_given (Some (Value x))))) q.4 (fitting n sh (number_given (Some (Value x))) e h))

  held_starts : (c : Option Class) (n : ℕ) (sh : Shape) → option_map (λ (k : Class). shape.Reference n k.name) c ≡ Some sh → (o : Option (Initial Note)) → StartsRight sh o
  held_starts None n sh e o = absurd (none≢some e)
  held_starts (Some k) n sh e o = subst (λ x. StartsRight x o) (some-same e) tt

  interface_starts : (c : Option Rattle.st_values.specs.Program.Interface) (n : ℕ) (sh : Shape) → option_map (λ (k : Rattle.st_values.specs.Program.Interface). shape.Interface n k.name) c ≡ Some sh → (o : Option (Initial Note)) → StartsRight sh o
  interface_starts None n sh e o = absurd (none≢some e)
  interface_starts (Some k) n sh e o = subst (λ x. StartsRight x o) (some-same e) tt

  -- by the outside of the type
  abbrev As : StType → Shape → Type 0
  As t sh = (o : Option (Initial Note)) → GivenIs p t o → StartsRight sh o

  as_variant : (t u : StType) (level : StType-F StType) (sh : Shape) → out-StType t ≡ level → roll-StType level ≡ u → As u sh → As t sh
  as_variant t u level sh q r h = subst (λ x. As x sh) (sym (sym (roll-out-StType t) ∙ (ap roll-StType q ∙ r))) h

  simple_starts : (t : StType) (level : StType-F StType) (sh : Shape) → out-StType t ≡ level → Rattle.st_values.specs.Shape.simple_shape p level ≡ Some sh → As t sh
  simple_starts t (StType-F.Elementary e) sh q h = as_variant t (type.Elementary e) (StType-F.Elementary e) sh q (type.rolls-Elementary e) (λ o g. subst (λ x. StartsRight x o) (some-same h) (number_starts e o g))
  simple_starts t (StType-F.Enumeration n) sh q h = as_variant t (type.Enumeration n) (StType-F.Enumeration n) sh q (type.rolls-Enumeration n) (λ o g. enumeration_starts n sh h o g)
  simple_starts t (StType-F.Reference c) sh q h = λ o g. held_starts (class_at p c) c sh h o
  simple_starts t (StType-F.Interface i) sh q h = λ o g. interface_starts (slice_get p.interfaces i) i sh h o
  simple_starts t _ sh q h = absurd (none≢some h)

  level_starts : (f : StType → Option Shape) → Starts f → (t : StType) (level : StType-F StType) (sh : Shape) → out-StType t ≡ level → shape_by p f level ≡ Some sh → As t sh
  level_starts f below t (StType-F.Array low high of) sh q h = λ o g. array_starts f below low high of sh h t (ap Rattle.st_rules.specs.Kinds.element_at_level q) o g
  level_starts f below t (StType-F.Structure n) sh q h = as_variant t (type.Structure n) (StType-F.Structure n) sh q (type.rolls-Structure n) (λ o g. structure_starts f below n sh h o g)
  level_starts f below t (StType-F.Instance c) sh q h = as_variant t (type.Instance c) (StType-F.Instance c) sh q (type.rolls-Instance c) (λ o g. instance_starts f below c sh h o g)
  level_starts f below t (StType-F.Elementary e) sh q h = simple_starts t (StType-F.Elementary e) sh q h
  level_starts f below t (StType-F.Enumeration n) sh q h = simple_starts t (StType-F.Enumeration n) sh q h
  level_starts f below t (StType-F.Reference c) sh q h = simple_starts t (StType-F.Reference c) sh q h
  level_starts f below t (StType-F.Interface i) sh q h = simple_starts t (StType-F.Interface i) sh q h

  pub starts : (n : ℕ) → Starts (shape_within p n)
  starts zero t sh h o g = simple_starts t (out-StType t) sh refl h o g
  starts (suc n) t sh h o g = level_starts (shape_within p n) (starts n) t (out-StType t) sh refl h o g
