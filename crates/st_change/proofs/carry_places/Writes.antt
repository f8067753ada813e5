-- Any row of writes of what is carried, which leaves out no place, makes it.
use Rattle.std.proofs.Common.{◌≡◌, ℕ, zero, suc, ℤ, Bool, true, false, List, [], ◌∷◌, Some, None, refl, sym, ap, ap₂, ◌∙◌, inl, inr}
use Rattle.std.specs.Prelude.{◌↔◌, ◌⊎◌, if◌then◌else◌}
use Rattle.std.proofs.lemmas.Bool.{lt-ltb}
use Rattle.st_tree.specs.declared.path.Step.{Step}
use Rattle.st_tree.specs.declared.path.Step.TheVariants as step
use Rattle.st_values.specs.Program.{Program}
use Rattle.st_values.specs.Value.{Value, number, reference, array, structure, instance, Values, no_values, value_then, Members, no_members, member_then, element, member, place_of_index, part, value_at}
use Rattle.st_values.specs.Shape.{Shape, Elementary, Enumeration, Reference, Interface, Array, Structure, Instance, Fields, no_fields, field_then, field, element_shape, shape_part, shape_at}
use Rattle.st_meaning.specs.st_frame.Good.{Fit, FitEach}
use Rattle.st_meaning.specs.st_frame.Promise.Declarations.{Each}
use Rattle.st_change.specs.From.{Pairs, old_name}
use Rattle.st_change.specs.Carry.{Old, before_by, stays, carry, carry_elements, carry_members}
use Rattle.st_change.proofs.Names.{then_is, then_some}
use Rattle.st_change.specs.carry_places.Places.{old_along, none_stays}
use Rattle.st_change.specs.carry_places.Writes.{Write, written, is_single, Carries, Covers, IsAmong}
use Rattle.st_change.proofs.carry_places.Carried.{part_fits, place_carried}
use Rattle.st_change.proofs.carry_places.Origins.{element_within}
use Rattle.st_change.proofs.carry_places.Rows.{carry_single}
use Rattle.st_change.proofs.carry_places.AnyRows.{frame, frames, frames_of, Right, Enough, row_makes, makes_enough}

-- ---- what fits has a shape at each of its places

field_shaped : (p : Program) (fs : Fields) (ms : Members) (k : ℕ) (w : Value) → FitEach p fs ms → member ms k ≡ Some w → (x : Shape) × (field fs k ≡ Some x)
field_shaped p no_fields no_members k w g e = cc
field_shaped p no_fields (member_then n v ms) k w g e = absurd g
field_shaped p (field_then v x fs) no_members k w g e = absurd g
field_shaped p (field_then v x fs) (member_then n y ms) zero w g e = (x, refl)
field_shaped p (field_then v x fs) (member_then n y ms) (suc k) w g e = field_shaped p fs ms k w g.2 e

step_shaped : (p : Program) (s : Step) (sh : Shape) (v w : Value) → Fit p sh v → part v s ≡ Some w → (x : Shape) × (shape_part sh s ≡ Some x)
step_shaped p s (Elementary t) (number z) w g e = cc
step_shaped p s (Enumeration name vs) (number z) w g e = cc
step_shaped p s (Reference c name) (reference r) w g e = cc
step_shaped p s (Interface i name) (reference r) w g e = cc
step_shaped p (step.Element i) (Array low n sh) (array l vs) w g e =
    let a = then_some (place_of_index l i) (λ k. element vs k) w e in
    let small = element_within p n sh vs a.0 w g.1 a.2 in
    (sh, ap (λ m. element_shape n sh (place_of_index m i)) g.0 ∙ ap (element_shape n sh) a.1 ∙ ap (λ t. if t then Some sh else None) (lt-ltb a.0 n small))
step_shaped p (step.Field k) (Array low n sh) (array l vs) w g e = cc
step_shaped p (step.Field k) (Structure name fs) (structure m ms) w g e = field_shaped p fs ms k w g.1 e
step_shaped p (step.Element i) (Structure name fs) (structure m ms) w g e = cc
step_shaped p (step.Field k) (Instance c name fs) (instance m ms) w g e = field_shaped p fs ms k w g.1 e
step_shaped p (step.Element i) (Instance c name fs) (instance m ms) w g e = cc
step_shaped p s sh v w g e = absurd g

pub shaped : (p : Program) (ss : List Step) (sh : Shape) (v w : Value) → Fit p sh v → value_at v ss ≡ Some w → (x : Shape) × (shape_at sh ss ≡ Some x)
shaped p [] sh v w g e = (sh, refl)
shaped p (s ∷ ss) sh v w g e =
    let a = then_some (part v s) (λ u. value_at u ss) w e in
    let b = step_shaped p s sh v a.0 g a.1 in
    let c = shaped p ss b.0 a.0 w (part_fits p sh b.0 v a.0 s g b.1 a.1) a.2 in
    (c.0, then_is (shape_part sh s) (λ u. shape_at u ss) b.0 c.0 b.1 c.1)

-- ---- which side of a test

pub if_true : (b : Bool) (t x y : Value) → b ≡ true → Some (if b then t else x) ≡ Some y → t ≡ y
if_true true t x y e f = cc
if_true false t x y e f = cc

pub if_false : (b : Bool) (t x y : Value) → b ≡ false → Some (if b then t else x) ≡ Some y → x ≡ y
if_false true t x y e f = cc
if_false false t x y e f = cc

pub joined : (A : Type 0) (t x y : Value) → A ⊎ (t ≡ x) → t ≡ y → A ⊎ (x ≡ y)
joined A t x y (inl a) e = inl a
joined A t x y (inr i) e = inr (sym i ∙ e)

pub turned : (A : Type 0) (x y : Value) → A ⊎ (x ≡ y) → A ⊎ (y ≡ x)
turned A x y (inl a) = inl a
turned A x y (inr i) = inr (sym i)

-- ---- what is carried keeps the frame

module _ (old new : Program) (keeping : Bool) where
  pub frame_if : (b : Bool) (x y : Value) → frame x ≡ frame y → frame (if b then y else x) ≡ frame y
  frame_if true x y e = refl
  frame_if false x y e = e

  mutual
    pub carry_framed : (h : Value) (sh : Shape) (o : Old) → frame (carry old new keeping sh o h) ≡ frame h
    carry_framed (number z) (Elementary e) o = refl
    carry_framed (number z) (Enumeration name values) o = refl
    carry_framed (reference r) (Reference c name) o = refl
    carry_framed (reference r) (Interface i name) o = refl
    carry_framed (array l hs) (Array low n sh) o = ap (array l) (elements_framed hs sh o low)
    carry_framed (structure m hs) (Structure name fs) o = ap (structure m) (members_framed hs fs _ _)
    carry_framed (instance m hs) (Instance c name fs) o = ap (instance m) (members_framed hs fs _ _)
    carry_framed h sh o = refl

    elements_framed : (hs : Values) (sh : Shape) (o : Old) (i : ℤ) → frames (carry_elements old new keeping sh o i hs) ≡ frames hs
    elements_framed no_values sh o i = refl
    elements_framed (value_then h hs) sh o i = ap₂ value_then (carry_framed h sh _) (elements_framed hs sh o _)

    members_framed : (hs : Members) (fs : Fields) (ps : Pairs) (from : List ℕ → Old) → frames_of (carry_members old new keeping fs ps from hs) ≡ frames_of hs
    members_framed no_members fs ps from = refl
    members_framed (member_then n h hs) no_fields ps from = refl
    members_framed (member_then n h hs) (field_then v sh fs) ps from =
        ap₂ (member_then n) (frame_if (stays old new keeping v) (carry old new keeping sh (before_by from (old_name ps v.name)) h) h (carry_framed h sh (before_by from (old_name ps v.name)))) (members_framed hs fs ps from)

  module _ (sh : Shape) (o : Old) (held : Value) (fits : Fit new sh held) where
    -- ---- the writes are right

    right : (w : Write) → Carries old new keeping sh o held w → Right held (carry old new keeping sh o held) w
    right w c = record {
      was = c.was;
      there = c.holds;
      single = carry_single old new keeping c.leaf (old_along old new sh o w.steps) c.was (ap is_single (sym c.is) ∙ c.single);
      new_single = c.single;
      is =
          place_carried old new keeping w.steps sh c.leaf o held c.was fits c.there c.holds
          ∙ ap (λ b. Some (if b then carry old new keeping c.leaf (old_along old new sh o w.steps) c.was else c.was)) c.free
          ∙ ap Some (sym c.is);
    }

    all_right : (ws : List Write) → Each (Carries old new keeping sh o held) ws → Each (Right held (carry old new keeping sh o held)) ws
    all_right [] c = tt
    all_right (w ∷ ws) c = (right w c.0, all_right ws c.1)

    -- ---- and they are enough where they leave out no place

    enough : (ws : List Write) → Covers old new keeping sh o held ws → Enough held (carry old new keeping sh o held) ws
    enough ws c = record {
      by = λ ss x y e f g.
          let s = shaped new ss sh held x fits e in
          let p = place_carried old new keeping ss sh s.0 o held x fits s.1 e in
          by ss s.0 x y s.1 e f (sym p ∙ g) (none_stays old new keeping (Some sh) ss) refl;
    }
      where
        by : (ss : List Step) (leaf : Shape) (x y : Value) → shape_at sh ss ≡ Some leaf → value_at held ss ≡ Some x → is_single x ≡ true
            → Some (if none_stays old new keeping (Some sh) ss then carry old new keeping leaf (old_along old new sh o ss) x else x) ≡ Some y → (b : Bool) → none_stays old new keeping (Some sh) ss ≡ b → IsAmong ss ws ⊎ (x ≡ y)
        by ss leaf x y e f g h true k =
            let to = carry old new keeping leaf (old_along old new sh o ss) x in
            joined (IsAmong ss ws) to x y (c.by ss leaf x e f g k) (if_true (none_stays old new keeping (Some sh) ss) to x y k h)
        by ss leaf x y e f g h false k = inr (if_false (none_stays old new keeping (Some sh) ss) (carry old new keeping leaf (old_along old new sh o ss) x) x y k h)

    covers : (ws : List Write) → Enough held (carry old new keeping sh o held) ws → Covers old new keeping sh o held ws
    covers ws c = record {
      by = λ ss leaf h e f g k.
          let to = carry old new keeping leaf (old_along old new sh o ss) h in
          let p = place_carried old new keeping ss sh leaf o held h fits e f in
          let q : value_at (carry old new keeping sh o held) ss ≡ Some to = p ∙ ap (λ b. Some (if b then to else h)) k in
          turned (IsAmong ss ws) h to (c.by ss h to f g q);
    }

    pub any_row : (ws : List Write) → Each (Carries old new keeping sh o held) ws → (written held ws ≡ Some (carry old new keeping sh o held)) ↔ Covers old new keeping sh o held ws
    any_row ws c = (
      λ e. covers ws (makes_enough ws held (carry old new keeping sh o held) (all_right ws c) e),
      λ k. row_makes ws held (carry old new keeping sh o held) (sym (carry_framed held sh o)) (all_right ws c) (enough ws k),
    )
