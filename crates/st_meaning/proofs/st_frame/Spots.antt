-- What is known of places and of the locals of open calls.
use Rattle.std.proofs.Common.{◌≡◌, ℕ, zero, suc, ℤ, pos, negsuc, ◌<◌, Bool, true, false, List, [], ◌∷◌, ◌++◌, Option, Some, None, refl, sym, ap, ◌∙◌, subst, arith, length}
use Rattle.std.specs.Prelude.{T, if◌then◌else◌, ◌-ℤ◌, ◌≤ℤ◌, int_le, nat_lt, slice_get, slice_set, IsTrue, nat_eq}
use Rattle.std.specs.Int.Signed.{le_z_yes}
use Rattle.std.proofs.lemmas.Bool.{eqb-true, eq-eqb, lt-ltb}
use Rattle.std.proofs.lemmas.Int.{ints}
use Rattle.st_types.specs.declared.st_type.StType.{StType, out-StType}
use Rattle.st_types.specs.declared.st_type.StType.TheVariants as type
use Rattle.st_types.specs.declared.st_type.StType.TheOpen.{StType-F}
use Rattle.st_tree.specs.declared.path.Step.{Step}
use Rattle.st_tree.specs.declared.path.Step.TheVariants as step
use Rattle.st_values.specs.Program.{Variable, Program, class_variables, conforms}
use Rattle.st_values.specs.Value.{Path, Value, ◌>>=◌, natural, place_of_index}
use Rattle.st_values.specs.Initial.{initial_value}
use Rattle.st_values.specs.Shape.{Shape, Instance, Fields, extent, count_to, fields_of, element_shape, shape_of, shape_part, shape_at, path_shape, has_instance}
use Rattle.st_values.specs.ShapeLaws.{Unfolds}
use Rattle.st_values.proofs.ValueLaws.{then_some, one_some}
use Rattle.st_meaning.specs.State.{Spot, in_store, in_frame, Slot, holds, bound, unbound, Frame, frame_at, frames_with, held_by, frame_value, with_local, spot_in, local_spot_in, into}
use Rattle.st_meaning.specs.Call.{Given, for_local, for_variable, is_in_out, initial_slots, with_given}
use Rattle.st_meaning.specs.st_frame.Good.{Names, Fit}
use Rattle.st_meaning.specs.st_frame.Promise.Types.{IsNoInstance, Serves, same_place, wider_class}
use Rattle.st_meaning.specs.st_frame.Promise.Names.{Scope}
use Rattle.st_meaning.specs.st_frame.Promise.Places.{FieldIs}
use Rattle.st_meaning.specs.st_frame.Promise.Declarations.{Each, LocalIs}
use Rattle.st_meaning.specs.st_frame.Promise.Programs.{ProgramIs}
use Rattle.st_meaning.proofs.st_frame.Values.{shape_further, path_further, value_fits}
use Rattle.st_meaning.proofs.st_frame.OfTypes.{OfKind}
use Rattle.st_meaning.proofs.st_frame.Unfolded.{opened, within_bound, at_unfolds, field_is, path_unfolds, instance_opened, OfClass}

-- ---- the shapes of places

-- the scope of the call of a depth
abbrev pub scope_at : List Scope → ℕ → Option Scope
scope_at [] d = None
scope_at (g ∷ gs) d = if nat_eq d (length gs) then Some g else scope_at gs d

module _ (p : Program) where
  -- what a local holds; an in-out holds nothing
  abbrev pub variable_shape : Option Variable → Option Shape
  variable_shape None = None
  variable_shape (Some v) = if is_in_out v.sort then None else shape_of p v.kind

  abbrev pub local_shape : Option Scope → ℕ → Option Shape
  local_shape None n = None
  local_shape (Some g) n = variable_shape (slice_get g.locals n)

  abbrev pub spot_shape : List Scope → Spot → Option Shape
  spot_shape gs (in_store q) = path_shape p q
  spot_shape gs (in_frame d n ss) = local_shape (scope_at gs d) n >>= λ sh. shape_at sh ss

-- A place of this type has this shape: the one to which the type unfolds, or that of an instance which conforms.
pub data Meets (p : Program) (o : Option Shape) (t : StType) : Type 0 where
  exactly : (sh : Shape) → Unfolds p t sh → o ≡ Some sh → Meets p o t
  below : (c d : ℕ) (name : List ℕ) (fs : Fields) → t ≡ type.Instance c → o ≡ Some (Instance d name fs) → IsTrue (conforms p d (type.Instance c)) → Meets p o t

-- a place of a region is in one of these
abbrev pub Within : (ℕ → Type 0) → Spot → Type 0
Within F (in_store q) = F q.region
Within F (in_frame d n ss) = Unit {0}

pub within_further : (F : ℕ → Type 0) (spot : Spot) (s : Step) → Within F spot → Within F (into spot s)
within_further F (in_store q) s h = h
within_further F (in_frame d n ss) s h = h

-- ---- indices

below_true : (a b : ℤ) → int_le a b ≡ true → a ≤ℤ b
below_true a b e = le_z_yes (subst T (sym e) tt)

natural_of : (z : ℤ) → pos 0 ≤ℤ z → (k : ℕ) × (z ≡ pos k)
natural_of (pos k) h = (k, refl)
natural_of (negsuc k) h = absurd (omega (arith, ints))

-- an index between the bounds has a place
pub index_there : (low high i : ℤ) → int_le low i ≡ true → int_le i high ≡ true → (k : ℕ) × (place_of_index low i ≡ Some k) × (nat_lt k (extent low high) ≡ true)
index_there low high i a b =
    let x = below_true low i a in
    let y = below_true i high b in
    let k = natural_of (i -ℤ low) (omega (arith, ints)) in
    let m = natural_of (high -ℤ low) (omega (arith, ints)) in
    let kq : i -ℤ low ≡ pos k.0 = k.1 in
    let mq : high -ℤ low ≡ pos m.0 = m.1 in
    let h : k.0 < suc m.0 = omega (arith, ints) in
    (k.0, ap natural k.1, ap (λ z. nat_lt k.0 (count_to z)) m.1 ∙ lt-ltb k.0 (suc m.0) h)

-- ---- types

pub instance_once : (c d : ℕ) → type.Instance c ≡ type.Instance d → c ≡ d
instance_once c d e =
    let x : StType-F.Instance c ≡ StType-F.Instance d = sym (type.outs-Instance c) ∙ ap out-StType e ∙ type.outs-Instance d in
    cc

module _ (p : Program) (fine : ProgramIs p) where
  -- what is known of a place of an instance
  abbrev pub IsBelow : Option Shape → ℕ → Type 0
  IsBelow o c = (d : ℕ) × (name : List ℕ) × (fs : Fields) × (o ≡ Some (Instance d name fs)) × IsTrue (conforms p d (type.Instance c))

  pub as_instance : (o : Option Shape) (c : ℕ) → Meets p o (type.Instance c) → IsBelow o c
  as_instance o c (exactly sh u e) =
      let a = opened p (type.Instance c) (StType-F.Instance c) sh (type.outs-Instance c) u in
      (c, a.0.name, a.1, e ∙ ap Some a.3, fine.itself c a.0 a.2)
  as_instance o c (below b d name fs t e m) = (d, name, fs, e, subst (λ x. IsTrue (conforms p d (type.Instance x))) (sym (instance_once c b t)) m)

  pub meets_serves : (o : Option Shape) (t u : StType) → Serves p t u → Meets p o t → Meets p o u
  meets_serves o t u same_place m = m
  meets_serves o t u (wider_class {c = c} {d = d} n) m = let a = as_instance o c m in below d a.0 a.1 a.2 refl a.3 (n.by a.0 a.4)

  -- a place of another type than an instance's
  pub as_plain : (o : Option Shape) (t : StType) → IsNoInstance t → Meets p o t → (sh : Shape) × Unfolds p t sh × (o ≡ Some sh)
  as_plain o t h (exactly sh u e) = (sh, u, e)
  as_plain o t h (below c d name fs q e m) = absurd (subst IsNoInstance q h)

  pub named_by : (q : Path) (c : ℕ) → Meets p (path_shape p q) (type.Instance c) → Names p q (type.Instance c)
  named_by q c m = let a = as_instance (path_shape p q) c m in record { class = a.0; name = a.1; fields = a.2; there = a.3; meets = a.4 }

  pub by_name : (q : Path) (c : ℕ) → Names p q (type.Instance c) → Meets p (path_shape p q) (type.Instance c)
  by_name q c n = below c n.class n.name n.fields refl n.there n.meets

  -- ---- the open calls

  below_suc : (b : Bool) (d n : ℕ) → (b ≡ true → d ≡ n) → (b ≡ false → d < n) → d < suc n
  below_suc true d n h k = let e = h refl in omega arith
  below_suc false d n h k = let e = k refl in omega arith

  scope_below : (gs : List Scope) (d : ℕ) (g : Scope) → scope_at gs d ≡ Some g → d < length gs
  scope_below [] d g e = cc
  scope_below (h ∷ gs) d g e =
      below_suc (nat_eq d (length gs)) d (length gs) (eqb-true d (length gs))
      (λ f. scope_below gs d g (subst (λ b. (if b then Some h else scope_at gs d) ≡ Some g) f e))

  not_same : (d n : ℕ) → d < n → nat_eq d n ≡ false
  not_same d n h = from (nat_eq d n) refl
    where
      from : (b : Bool) → nat_eq d n ≡ b → nat_eq d n ≡ false
      from true e = let q = eqb-true d n e in absurd (omega arith)
      from false e = e

  scope_push : (g : Scope) (gs : List Scope) (d : ℕ) (h : Scope) → scope_at gs d ≡ Some h → scope_at (g ∷ gs) d ≡ Some h
  scope_push g gs d h e = ap (λ b. if b then Some g else scope_at gs d) (not_same d (length gs) (scope_below gs d h e)) ∙ e

  -- a longer row of calls knows the same of a place
  pub spot_push : (g : Scope) (gs : List Scope) (spot : Spot) (sh : Shape) → spot_shape p gs spot ≡ Some sh → spot_shape p (g ∷ gs) spot ≡ Some sh
  spot_push g gs (in_store q) sh e = e
  spot_push g gs (in_frame d n ss) sh e =
      let a = then_some (local_shape p (scope_at gs d) n) _ sh e in
      let b = of (scope_at gs d) refl a.0 a.1 in
      ap (λ o. local_shape p o n >>= λ u. shape_at u ss) (scope_push g gs d b.0 b.1 ∙ sym b.1) ∙ e
    where
      of : (o : Option Scope) → scope_at gs d ≡ o → (u : Shape) → local_shape p o n ≡ Some u → (h : Scope) × (scope_at gs d ≡ Some h)
      of None q u f = cc
      of (Some h) q u f = (h, q)

  pub meets_push : (g : Scope) (gs : List Scope) (spot : Spot) (t : StType) → Meets p (spot_shape p gs spot) t → Meets p (spot_shape p (g ∷ gs) spot) t
  meets_push g gs spot t (exactly sh u e) = exactly sh u (spot_push g gs spot sh e)
  meets_push g gs spot t (below c d name fs q e m) = below c d name fs q (spot_push g gs spot (Instance d name fs) e) m

  -- one step further
  pub spot_step : (gs : List Scope) (spot : Spot) (sh : Shape) (s : Step) (part : Shape) → spot_shape p gs spot ≡ Some sh → shape_part sh s ≡ Some part → spot_shape p gs (into spot s) ≡ Some part
  spot_step gs (in_store q) sh s part e f = path_further p q sh s part e f
  spot_step gs (in_frame d n ss) sh s part e f =
      let a = then_some (local_shape p (scope_at gs d) n) _ sh e in
      ap (λ o. o >>= λ x. shape_at x (ss ++ s ∷ [])) a.1 ∙ shape_further p ss a.0 sh s part a.2 f

  pub variable_is : (o : Option Variable) (sh : Shape) → variable_shape p o ≡ Some sh → (v : Variable) × (o ≡ Some v) × (shape_of p v.kind ≡ Some sh)
  variable_is None sh e = cc
  variable_is (Some v) sh e = (v, refl, by (is_in_out v.sort) e)
    where
      by : (b : Bool) → (if b then None else shape_of p v.kind) ≡ Some sh → shape_of p v.kind ≡ Some sh
      by true q = cc
      by false q = q

  pub scope_is : (o : Option Scope) (n : ℕ) (sh : Shape) → local_shape p o n ≡ Some sh → (g : Scope) × (o ≡ Some g) × (variable_shape p (slice_get g.locals n) ≡ Some sh)
  scope_is None n sh e = cc
  scope_is (Some g) n sh e = (g, refl, e)

  -- what is at a place is what some type unfolds to
  pub spot_unfolds : (gs : List Scope) (spot : Spot) (sh : Shape) → spot_shape p gs spot ≡ Some sh → (t : StType) × Unfolds p t sh
  spot_unfolds gs (in_store q) sh e = path_unfolds p fine.regions q sh e
  spot_unfolds gs (in_frame d n ss) sh e =
      let a = then_some (local_shape p (scope_at gs d) n) _ sh e in
      let b = scope_is (scope_at gs d) n a.0 a.1 in
      let c = variable_is (slice_get b.0.locals n) a.0 b.2 in
      at_unfolds p ss c.0.kind a.0 sh (within_bound p c.0.kind a.0 c.2) a.2

  -- a variable of an instance
  pub member_meets : (gs : List Scope) (spot : Spot) (c k : ℕ) (v : Variable) → Meets p (spot_shape p gs spot) (type.Instance c) → slice_get (class_variables p c) k ≡ Some v
      → Meets p (spot_shape p gs (into spot (step.Field k))) v.kind
  member_meets gs spot c k v m e =
      let a = as_instance (spot_shape p gs spot) c m in
      let t = spot_unfolds gs spot (Instance a.0 a.1 a.2) a.3 in
      let k' : OfClass p fine.regions a.0 a.1 a.2 = instance_opened p fine.regions (out-StType t.0) a.0 a.1 a.2 (opened p t.0 (out-StType t.0) (Instance a.0 a.1 a.2) refl t.1) in
      let f = field_is p (class_variables p a.0) a.2 k v k'.3 (fine.variables_above a.0 c k v a.4 e) in
      exactly f.0 f.2 (spot_step gs spot (Instance a.0 a.1 a.2) (step.Field k) f.0 a.3 f.1)

  -- a field of a structure
  pub field_meets : (gs : List Scope) (spot : Spot) (t : StType) (k : ℕ) (u : StType) → Meets p (spot_shape p gs spot) t → FieldIs p t k u → Meets p (spot_shape p gs (into spot (step.Field k))) u
  field_meets gs spot (type.Structure n) k u m h =
      let a = as_plain (spot_shape p gs spot) (type.Structure n) tt m in
      let o = opened p (type.Structure n) (StType-F.Structure n) a.0 (type.outs-Structure n) a.1 in
      let x : o.0 ≡ h.0 = one_some (slice_get p.types n) o.0 h.0 o.3 h.2 in
      let y : o.1 ≡ h.1 = one_some (fields_of h.0.body) o.1 h.1 (subst (λ z. fields_of z.body ≡ Some o.1) x o.4) h.3 in
      let f = field_is p o.1 o.2 k h.4.0 o.6 (ap (λ z. slice_get z k) y ∙ h.4.1) in
      subst (Meets p (spot_shape p gs (into spot (step.Field k)))) h.4.2
      (exactly f.0 f.2 (spot_step gs spot a.0 (step.Field k) f.0 a.2 (ap (λ z. shape_part z (step.Field k)) o.5 ∙ f.1)))
  field_meets gs spot t k u m h = absurd h

  -- an element of an array
  pub element_meets : (gs : List Scope) (spot : Spot) (t : StType) (low high : ℤ) (of : StType) (i : ℤ) → out-StType t ≡ StType-F.Array low high of → Meets p (spot_shape p gs spot) t → int_le low i ≡ true → int_le i high ≡ true
      → Meets p (spot_shape p gs (into spot (step.Element i))) of
  element_meets gs spot t low high of i q (below c d name fs e f m) a b =
      let x : StType-F.Array low high of ≡ StType-F.Instance c = sym q ∙ ap out-StType e ∙ type.outs-Instance c in
      cc
  element_meets gs spot t low high of i q (exactly sh u e) a b =
      let o = opened p t (StType-F.Array low high of) sh q u in
      let k = index_there low high i a b in
      let there : element_shape (extent low high) o.0 (place_of_index low i) ≡ Some o.0 = ap (element_shape (extent low high) o.0) k.1 ∙ ap (λ y. if y then Some o.0 else None) k.2 in
      exactly o.0 o.2 (spot_step gs spot sh (step.Element i) o.0 e (ap (λ z. shape_part z (step.Element i)) o.1 ∙ there))

  module _ (F W : ℕ → Type 0) where
    -- what is known of a place
    pub record SpotIs (gs : List Scope) (spot : Spot) (t : StType) : Type 0 where
      pub is : Meets p (spot_shape p gs spot) t
      pub near : Within F spot

    -- a local holds a value, or stands for a place that may be written
    abbrev pub SlotIs : List Scope → Variable → Slot → Type 0
    SlotIs gs v (holds w) = (is_in_out v.sort ≡ false) × ((sh : Shape) × (shape_of p v.kind ≡ Some sh) × (has_instance sh ≡ false) × Fit p sh w)
    SlotIs gs v (bound spot) = (is_in_out v.sort ≡ true) × SpotIs gs spot v.kind × Within W spot
    SlotIs gs v unbound = is_in_out v.sort ≡ true

    abbrev pub SlotsAre : List Scope → List Variable → List Slot → Type 0
    SlotsAre gs [] [] = Unit {0}
    SlotsAre gs (v ∷ vs) (s ∷ ss) = SlotIs gs v s × SlotsAre gs vs ss
    SlotsAre gs _ _ = ⊥

    -- the own instance conforms to the class that declares the routine, and lies in what is read and written
    abbrev pub OwnIs : Option ℕ → Option Path → Type 0
    OwnIs (Some c) (Some q) = Names p q (type.Instance c) × F q.region × W q.region
    OwnIs _ _ = Unit {0}

    pub record FrameIs (gs : List Scope) (g : Scope) (f : Frame) : Type 0 where
      pub own : OwnIs g.this f.own
      pub slots : SlotsAre gs g.locals f.locals

    abbrev pub FramesAre : List Scope → List Frame → Type 0
    FramesAre [] [] = Unit {0}
    FramesAre (g ∷ gs) (f ∷ fs) = FrameIs gs g f × FramesAre gs fs
    FramesAre _ _ = ⊥

    pub as_many : (gs : List Scope) (fs : List Frame) → FramesAre gs fs → length gs ≡ length fs
    as_many [] [] h = refl
    as_many [] (f ∷ fs) h = absurd h
    as_many (g ∷ gs) [] h = absurd h
    as_many (g ∷ gs) (f ∷ fs) h = ap suc (as_many gs fs h.1)

    -- ---- locals read and replaced

    pub slot_fits : (gs : List Scope) (vs : List Variable) (ss : List Slot) (n : ℕ) (v : Variable) (w : Value) → SlotsAre gs vs ss → slice_get vs n ≡ Some v → held_by (slice_get ss n) ≡ Some w
        → (is_in_out v.sort ≡ false) × ((sh : Shape) × (shape_of p v.kind ≡ Some sh) × (has_instance sh ≡ false) × Fit p sh w)
    slot_fits gs [] ss n v w h e f = cc
    slot_fits gs (x ∷ vs) [] n v w h e f = cc
    slot_fits gs (x ∷ vs) (holds y ∷ ss) zero v w h e f =
        let a : x ≡ v = cc in
        let b : y ≡ w = cc in
        subst (λ z. SlotIs gs v (holds z)) b (subst (λ z. SlotIs gs z (holds y)) a h.0)
    slot_fits gs (x ∷ vs) (bound q ∷ ss) zero v w h e f = cc
    slot_fits gs (x ∷ vs) (unbound ∷ ss) zero v w h e f = cc
    slot_fits gs (x ∷ vs) (s ∷ ss) (suc n) v w h e f = slot_fits gs vs ss n v w h.1 e f

    pub slot_replaced : (gs : List Scope) (vs : List Variable) (ss : List Slot) (n : ℕ) (v : Variable) (s : Slot) → SlotsAre gs vs ss → slice_get vs n ≡ Some v → SlotIs gs v s → SlotsAre gs vs (slice_set ss n s)
    slot_replaced gs [] ss n v s h e k = cc
    slot_replaced gs (x ∷ vs) [] n v s h e k = absurd h
    slot_replaced gs (x ∷ vs) (r ∷ ss) zero v s h e k = let a : v ≡ x = cc in (subst (λ y. SlotIs gs y s) a k, h.1)
    slot_replaced gs (x ∷ vs) (r ∷ ss) (suc n) v s h e k = (h.0, slot_replaced gs vs ss n v s h.1 e k)

    -- a local of this shape
    pub kept_is : (o : Option Variable) (sh : Shape) → variable_shape p o ≡ Some sh → (v : Variable) × (o ≡ Some v) × (is_in_out v.sort ≡ false) × (shape_of p v.kind ≡ Some sh)
    kept_is None sh e = cc
    kept_is (Some v) sh e = by (is_in_out v.sort) refl e
      where
        by : (b : Bool) → is_in_out v.sort ≡ b → (if b then None else shape_of p v.kind) ≡ Some sh → (w : Variable) × (Some v ≡ Some w) × (is_in_out w.sort ≡ false) × (shape_of p w.kind ≡ Some sh)
        by true q e = cc
        by false q e = (v, refl, q, e)

    pub kept_fits : (gs : List Scope) (vs : List Variable) (ss : List Slot) (n : ℕ) (sh : Shape) (w : Value) → SlotsAre gs vs ss → variable_shape p (slice_get vs n) ≡ Some sh → held_by (slice_get ss n) ≡ Some w → Fit p sh w
    kept_fits gs vs ss n sh w h e f =
        let v = kept_is (slice_get vs n) sh e in
        let a = slot_fits gs vs ss n v.0 w h v.1 f in
        subst (λ x. Fit p x w) (one_some (shape_of p v.0.kind) a.1.0 sh a.1.1 v.3) a.1.3

    -- a local of an open call is read
    pub local_fits : (gs : List Scope) (fs : List Frame) (d n : ℕ) (sh : Shape) (w : Value) → FramesAre gs fs → local_shape p (scope_at gs d) n ≡ Some sh → frame_value (frame_at fs d) n ≡ Some w → Fit p sh w
    local_fits [] [] d n sh w h e f = cc
    local_fits [] (x ∷ fs) d n sh w h e f = absurd h
    local_fits (g ∷ gs) [] d n sh w h e f = absurd h
    local_fits (g ∷ gs) (x ∷ fs) d n sh w h e f =
        from (nat_eq d (length gs)) (local_fits gs fs d n sh w h.1) e (subst (λ k. frame_value (if nat_eq d k then Some x else frame_at fs d) n ≡ Some w) (sym (as_many gs fs h.1)) f)
      where
        from : (b : Bool) → (local_shape p (scope_at gs d) n ≡ Some sh → frame_value (frame_at fs d) n ≡ Some w → Fit p sh w) → local_shape p (if b then Some g else scope_at gs d) n ≡ Some sh
            → frame_value (if b then Some x else frame_at fs d) n ≡ Some w → Fit p sh w
        from true k e2 f2 = kept_fits gs g.locals x.locals n sh w h.0.slots e2 f2
        from false k e2 f2 = k e2 f2

    -- a shape that is held has no instance in it, so what has another value of it is still held
    held_again : (gs : List Scope) (vs : List Variable) (ss : List Slot) (n : ℕ) (v : Variable) (sh : Shape) (w : Value) → SlotsAre gs vs ss → slice_get vs n ≡ Some v → is_in_out v.sort ≡ false → shape_of p v.kind ≡ Some sh → Fit p sh w
        → SlotsAre gs vs (slice_set ss n (holds w))
    held_again gs [] ss n v sh w h e i k f = cc
    held_again gs (x ∷ vs) [] n v sh w h e i k f = absurd h
    held_again gs (x ∷ vs) (holds y ∷ ss) zero v sh w h e i k f =
        let a : v ≡ x = cc in
        let o = h.0.1 in
        let q : sh ≡ o.0 = one_some (shape_of p x.kind) sh o.0 (subst (λ z. shape_of p z.kind ≡ Some sh) a k) o.1 in
        ((h.0.0, (o.0, o.1, o.2, subst (λ z. Fit p z w) q f)), h.1)
    held_again gs (x ∷ vs) (bound q ∷ ss) zero v sh w h e i k f =
        let a : v ≡ x = cc in
        let c : is_in_out x.sort ≡ true = h.0.0 in
        let d : is_in_out x.sort ≡ false = subst (λ z. is_in_out z.sort ≡ false) a i in
        cc
    held_again gs (x ∷ vs) (unbound ∷ ss) zero v sh w h e i k f =
        let a : v ≡ x = cc in
        let c : is_in_out x.sort ≡ true = h.0 in
        let d : is_in_out x.sort ≡ false = subst (λ z. is_in_out z.sort ≡ false) a i in
        cc
    held_again gs (x ∷ vs) (s ∷ ss) (suc n) v sh w h e i k f = (h.0, held_again gs vs ss n v sh w h.1 e i k f)

    -- and replaced
    pub local_replaced : (gs : List Scope) (fs : List Frame) (d n : ℕ) (sh : Shape) (w : Value) → FramesAre gs fs → local_shape p (scope_at gs d) n ≡ Some sh → Fit p sh w → FramesAre gs (with_local fs d n w (frame_at fs d))
    local_replaced [] [] d n sh w h e k = tt
    local_replaced [] (x ∷ fs) d n sh w h e k = absurd h
    local_replaced (g ∷ gs) [] d n sh w h e k = absurd h
    local_replaced (g ∷ gs) (x ∷ fs) d n sh w h e k =
        from (nat_eq d (length gs)) (nat_eq d (length fs)) (ap (λ y. nat_eq d y) (as_many gs fs h.1)) refl (local_replaced gs fs d n sh w h.1) e
      where
        inner : (o : Option Frame) → FramesAre gs (with_local fs d n w o) → nat_eq d (length fs) ≡ false → FramesAre (g ∷ gs) (with_local (x ∷ fs) d n w o)
        inner None m q = (h.0, h.1)
        inner (Some y) m q = subst (λ b. FramesAre (g ∷ gs) (if b then record y { locals = slice_set y.locals n (holds w) } ∷ fs else x ∷ frames_with fs d (record y { locals = slice_set y.locals n (holds w) }))) (sym q) (h.0, m)

        here : nat_eq d (length fs) ≡ true → local_shape p (Some g) n ≡ Some sh → FramesAre (g ∷ gs) (with_local (x ∷ fs) d n w (Some x))
        here q e2 =
            let v = kept_is (slice_get g.locals n) sh e2 in
            subst (λ b. FramesAre (g ∷ gs) (if b then record x { locals = slice_set x.locals n (holds w) } ∷ fs else x ∷ frames_with fs d (record x { locals = slice_set x.locals n (holds w) }))) (sym q)
            (record { own = h.0.own; slots = held_again gs g.locals x.locals n v.0 sh w h.0.slots v.1 v.2 v.3 k }, h.1)

        from : (b c : Bool) → b ≡ c → nat_eq d (length fs) ≡ c → (local_shape p (scope_at gs d) n ≡ Some sh → Fit p sh w → FramesAre gs (with_local fs d n w (frame_at fs d)))
            → local_shape p (if b then Some g else scope_at gs d) n ≡ Some sh → FramesAre (g ∷ gs) (with_local (x ∷ fs) d n w (if c then Some x else frame_at fs d))
        from true true y q r e2 = here q e2
        from false false y q r e2 = inner (frame_at fs d) (r e2 k) q
        from true false y q r e2 = cc
        from false true y q r e2 = cc

    -- the place of a local of the innermost call
    pub place_of_local : (gs : List Scope) (g : Scope) (f : Frame) (fs : List Frame) (n : ℕ) (v : Variable) (spot : Spot) → FramesAre (g ∷ gs) (f ∷ fs) → slice_get g.locals n ≡ Some v → local_spot_in (f ∷ fs) n ≡ Some spot
        → SpotIs (g ∷ gs) spot v.kind × Within W spot
    place_of_local gs g f fs n v spot h e k = of g.locals f.locals n h.0.slots e k refl
      where
        kept : (sh : Shape) → variable_shape p (slice_get g.locals n) ≡ Some sh → local_shape p (scope_at (g ∷ gs) (length fs)) n ≡ Some sh
        kept sh q = ap (λ b. local_shape p (if b then Some g else scope_at gs (length fs)) n) (eq-eqb (length fs) (length gs) (sym (as_many gs fs h.1))) ∙ q

        at_local : (x : Variable) (sh : Shape) → shape_of p x.kind ≡ Some sh → variable_shape p (slice_get g.locals n) ≡ Some sh → SpotIs (g ∷ gs) (in_frame (length fs) n []) x.kind × Within W (in_frame (length fs) n [])
        at_local x sh u q = (record { is = exactly sh (within_bound p x.kind sh u) (ap (λ o. o >>= λ y. Some y) (kept sh q)); near = tt }, tt)

        of : (vs : List Variable) (ss : List Slot) (m : ℕ) → SlotsAre gs vs ss → slice_get vs m ≡ Some v → spot_in (length fs) n (slice_get ss m) ≡ Some spot → variable_shape p (slice_get g.locals n) ≡ variable_shape p (slice_get vs m)
            → SpotIs (g ∷ gs) spot v.kind × Within W spot
        of [] ss m a b c q = cc
        of (x ∷ vs) [] m a b c q = cc
        of (x ∷ vs) (s ∷ ss) (suc m) a b c q = of vs ss m a.1 b c q
        of (x ∷ vs) (holds y ∷ ss) zero a b c q =
            let u : x ≡ v = cc in
            let r : in_frame (length fs) n [] ≡ spot = cc in
            let sh = a.0.1 in
            let i : variable_shape p (slice_get g.locals n) ≡ Some sh.0 = q ∙ ap (λ z. if z then None else shape_of p x.kind) a.0.0 ∙ sh.1 in
            subst (λ z. SpotIs (g ∷ gs) z v.kind × Within W z) r (subst (λ z. SpotIs (g ∷ gs) (in_frame (length fs) n []) z.kind × Within W (in_frame (length fs) n [])) u (at_local x sh.0 sh.1 i))
        of (x ∷ vs) (bound y ∷ ss) zero a b c q =
            let u : x ≡ v = cc in
            let r : y ≡ spot = cc in
            let m : SpotIs (g ∷ gs) y x.kind = record { is = meets_push g gs y x.kind a.0.1.is; near = a.0.1.near } in
            subst (λ z. SpotIs (g ∷ gs) z v.kind × Within W z) r (subst (λ z. SpotIs (g ∷ gs) y z.kind × Within W y) u (m, a.0.2))
        of (x ∷ vs) (unbound ∷ ss) zero a b c q = cc

    -- ---- the locals of a new call

    pub initial_fit : (gs : List Scope) (vs : List Variable) → Each (LocalIs p) vs → SlotsAre gs vs (initial_slots p vs)
    initial_fit gs [] h = tt
    initial_fit gs (v ∷ vs) h = (by (is_in_out v.sort) refl, initial_fit gs vs h.1)
      where
        by : (b : Bool) → is_in_out v.sort ≡ b → SlotIs gs v (if b then unbound else holds (initial_value p v))
        by true q = q
        by false q = let a = h.0 q in (q, (a.0, a.1, a.3, value_fits p v a.0 a.1 a.2))

    -- what is given to a variable of the instance
    abbrev pub VariableGiven : Option ℕ → ℕ → Value → Type 0
    VariableGiven None k w = ⊥
    VariableGiven (Some c) k w = (v : Variable) × (slice_get (class_variables p c) k ≡ Some v) × IsNoInstance v.kind × OfKind p F v.kind w

    abbrev pub GivenIs : List Scope → Option ℕ → List Variable → Given → Type 0
    GivenIs gs this vs (for_local n s) = (v : Variable) × (slice_get vs n ≡ Some v) × SlotIs gs v s
    GivenIs gs this vs (for_variable k w) = VariableGiven this k w

    abbrev pub GivenAre : List Scope → Option ℕ → List Variable → List Given → Type 0
    GivenAre gs this vs [] = Unit {0}
    GivenAre gs this vs (x ∷ xs) = GivenIs gs this vs x × GivenAre gs this vs xs

    pub given_fit : (gs : List Scope) (this : Option ℕ) (vs : List Variable) (xs : List Given) (ss : List Slot) → SlotsAre gs vs ss → GivenAre gs this vs xs → SlotsAre gs vs (with_given ss xs)
    given_fit gs this vs [] ss h k = h
    given_fit gs this vs (for_local n s ∷ xs) ss h k = given_fit gs this vs xs (slice_set ss n s) (slot_replaced gs vs ss n k.0.0 s h k.0.1 k.0.2) k.1
    given_fit gs this vs (for_variable n w ∷ xs) ss h k = given_fit gs this vs xs ss h k.1
