-- Any row of writes of single values makes a value of the same frame, where it leaves out no place in which the two differ.
use Rattle.std.proofs.Common.{◌≡◌, ◌≢◌, ℕ, zero, suc, ℤ, pos, Bool, true, false, List, [], ◌∷◌, Some, refl, sym, ap, ap₂, ◌∙◌, subst, ⊎_elim, inl, inr, arith}
use Rattle.std.specs.Prelude.{◌⊎◌, nat_eq, ◌+ℤ◌, ◌-ℤ◌}
use Rattle.std.specs.Ordering.{int_eq}
use Rattle.std.specs.Cmp.{signed_Decides}
use Rattle.std.proofs.lemmas.Bool.{eqb-true, eq-eqb}
use Rattle.std.proofs.lemmas.Int.{ints}
use Rattle.st_tree.specs.declared.path.Step.{Step}
use Rattle.st_tree.specs.declared.path.Step.TheVariants as step
use Rattle.st_values.specs.Value.{Value, number, reference, array, structure, instance, Values, no_values, value_then, Members, no_members, member_then, ◌>>=◌, element, with_element, with_element_at, member, with_member, natural, place_of_index, part, with_part, value_at, value_with}
use Rattle.st_values.specs.ValueLaws.{Apart}
use Rattle.st_values.proofs.ValueLaws.{value_laws}
use Rattle.st_meaning.specs.st_frame.Promise.Declarations.{Each}
use Rattle.st_change.proofs.Names.{then_is, then_some}
use Rattle.st_change.specs.carry_places.Writes.{Write, written, is_single, IsAmong}

-- ---- values without what is single in them

abbrev mutual
  pub frame : Value → Value
  frame (number z) = number (pos 0)
  frame (reference r) = number (pos 0)
  frame (array l vs) = array l (frames vs)
  frame (structure m ms) = structure m (frames_of ms)
  frame (instance m ms) = instance m (frames_of ms)

  pub frames : Values → Values
  frames no_values = no_values
  frames (value_then v vs) = value_then (frame v) (frames vs)

  pub frames_of : Members → Members
  frames_of no_members = no_members
  frames_of (member_then n v ms) = member_then n (frame v) (frames_of ms)

frame_single : (v : Value) → is_single v ≡ true → frame v ≡ number (pos 0)
frame_single (number z) e = refl
frame_single (reference r) e = refl
frame_single (array l vs) e = cc
frame_single (structure m ms) e = cc
frame_single (instance m ms) e = cc

-- the parts of two lists that are single are equal
record ElementsAgree (vs ws : Values) : Type 0 where
  by : (k : ℕ) (ss : List Step) (x y : Value) → (element vs k >>= λ v. value_at v ss) ≡ Some x → (element ws k >>= λ v. value_at v ss) ≡ Some y → is_single x ≡ true → x ≡ y

record MembersAgree (ms ns : Members) : Type 0 where
  by : (k : ℕ) (ss : List Step) (x y : Value) → (member ms k >>= λ v. value_at v ss) ≡ Some x → (member ns k >>= λ v. value_at v ss) ≡ Some y → is_single x ≡ true → x ≡ y

-- what is single in two values is equal
record Agree (v w : Value) : Type 0 where
  by : (ss : List Step) (x y : Value) → value_at v ss ≡ Some x → value_at w ss ≡ Some y → is_single x ≡ true → x ≡ y

place_at : (l : ℤ) (k : ℕ) → place_of_index l (l +ℤ pos k) ≡ Some k
place_at l k = let d : (l +ℤ pos k) -ℤ l ≡ pos k = omega (arith, ints) in ap natural d

elements_agree : (l : ℤ) (vs ws : Values) → Agree (array l vs) (array l ws) → ElementsAgree vs ws
elements_agree l vs ws a = record {
  by = λ k ss x y e f. a.by (step.Element (l +ℤ pos k) ∷ ss) x y (ap (λ o. (o >>= λ j. element vs j) >>= λ v. value_at v ss) (place_at l k) ∙ e) (ap (λ o. (o >>= λ j. element ws j) >>= λ v. value_at v ss) (place_at l k) ∙ f);
}

mutual
  equal : (v w : Value) → frame v ≡ frame w → Agree v w → v ≡ w
  equal (number z) w e a = a.by [] (number z) w refl refl refl
  equal (reference r) w e a = a.by [] (reference r) w refl refl refl
  equal (array l vs) (array m ws) e a =
      let d : l ≡ m = cc in
      let f : frames vs ≡ frames ws = cc in
      let b : Agree (array l vs) (array l ws) = subst (λ i. Agree (array l vs) (array i ws)) (sym d) a in
      ap₂ array d (equal_elements vs ws f (elements_agree l vs ws b))
  equal (structure m ms) (structure n ns) e a =
      let d : m ≡ n = cc in
      let f : frames_of ms ≡ frames_of ns = cc in
      ap₂ structure d (equal_members ms ns f (record { by = λ k ss. a.by (step.Field k ∷ ss) }))
  equal (instance m ms) (instance n ns) e a =
      let d : m ≡ n = cc in
      let f : frames_of ms ≡ frames_of ns = cc in
      ap₂ instance d (equal_members ms ns f (record { by = λ k ss. a.by (step.Field k ∷ ss) }))
  equal v w e a = cc

  equal_elements : (vs ws : Values) → frames vs ≡ frames ws → ElementsAgree vs ws → vs ≡ ws
  equal_elements no_values no_values e a = refl
  equal_elements (value_then v vs) (value_then w ws) e a =
      let d : frame v ≡ frame w = cc in
      let f : frames vs ≡ frames ws = cc in
      ap₂ value_then (equal v w d (record { by = a.by 0 })) (equal_elements vs ws f (record { by = λ k. a.by (suc k) }))
  equal_elements vs ws e a = cc

  equal_members : (ms ns : Members) → frames_of ms ≡ frames_of ns → MembersAgree ms ns → ms ≡ ns
  equal_members no_members no_members e a = refl
  equal_members (member_then m v ms) (member_then n w ns) e a =
      let c : m ≡ n = cc in
      let d : frame v ≡ frame w = cc in
      let f : frames_of ms ≡ frames_of ns = cc in
      ap (λ x. member_then x v ms) c ∙ ap₂ (member_then n) (equal v w d (record { by = a.by 0 })) (equal_members ms ns f (record { by = λ k. a.by (suc k) }))
  equal_members ms ns e a = cc

-- ---- a write of a single value leaves the frame

element_framed : (vs : Values) (k : ℕ) (w new : Value) → element vs k ≡ Some w → frame new ≡ frame w → frames (with_element vs k new) ≡ frames vs
element_framed no_values k w new e f = cc
element_framed (value_then v vs) zero w new e f = let d : w ≡ v = cc in ap (λ x. value_then x (frames vs)) (f ∙ ap frame d)
element_framed (value_then v vs) (suc k) w new e f = ap (value_then (frame v)) (element_framed vs k w new e f)

member_framed : (ms : Members) (k : ℕ) (w new : Value) → member ms k ≡ Some w → frame new ≡ frame w → frames_of (with_member ms k new) ≡ frames_of ms
member_framed no_members k w new e f = cc
member_framed (member_then n v ms) zero w new e f = let d : w ≡ v = cc in ap (λ x. member_then n x (frames_of ms)) (f ∙ ap frame d)
member_framed (member_then n v ms) (suc k) w new e f = ap (member_then n (frame v)) (member_framed ms k w new e f)

part_framed : (v : Value) (s : Step) (w new : Value) → part v s ≡ Some w → frame new ≡ frame w → frame (with_part v s new) ≡ frame v
part_framed (array l vs) (step.Element i) w new e f =
    let a = then_some (place_of_index l i) (λ k. element vs k) w e in
    ap (λ o. array l (frames (with_element_at vs o new))) a.1 ∙ ap (array l) (element_framed vs a.0 w new a.2 f)
part_framed (structure m ms) (step.Field k) w new e f = ap (structure m) (member_framed ms k w new e f)
part_framed (instance m ms) (step.Field k) w new e f = ap (instance m) (member_framed ms k w new e f)
part_framed v s w new e f = cc

framed : (ss : List Step) (v v' w new : Value) → value_at v ss ≡ Some w → frame new ≡ frame w → value_with v ss new ≡ Some v' → frame v' ≡ frame v
framed [] v v' w new e f g = let a : v' ≡ new = cc in let b : w ≡ v = cc in ap frame a ∙ f ∙ ap frame b
framed (s ∷ ss) v v' w new e f g =
    let a = then_some (part v s) (λ x. value_at x ss) w e in
    let b = then_some (part v s) (λ x. value_with x ss new >>= λ y. Some (with_part v s y)) v' g in
    let c = then_some (value_with b.0 ss new) (λ y. Some (with_part v s y)) v' b.2 in
    let d : b.0 ≡ a.0 = let x = a.1 in let y = b.1 in cc in
    let inner = framed ss a.0 c.0 w new a.2 f (subst (λ x. value_with x ss new ≡ Some c.0) d c.1) in
    let is : v' ≡ with_part v s c.0 = let x = c.2 in cc in
    ap frame is ∙ part_framed v s a.0 c.0 a.1 inner

-- ---- two places that are single are one, or lie apart

decided : {P : Type 0} (b : Bool) → (b ≡ true → P) → (P → b ≡ true) → P ⊎ (P → ⊥)
decided true f g = inl (f refl)
decided false f g = inr (λ p. let q : false ≡ true = g p in cc)

step_decided : (s t : Step) → (s ≡ t) ⊎ (s ≢ t)
step_decided (step.Field k) (step.Field l) = ⊎_elim (λ e. inl (ap step.Field e)) (λ n. inr (λ e. n cc)) (decided (nat_eq k l) (eqb-true k l) (eq-eqb k l))
step_decided (step.Element i) (step.Element j) = ⊎_elim (λ e. inl (ap step.Element e)) (λ n. inr (λ e. n cc)) (decided (int_eq i j) (signed_Decides i j).0 (signed_Decides i j).1)
step_decided (step.Field k) (step.Element j) = inr (λ e. cc)
step_decided (step.Element i) (step.Field l) = inr (λ e. cc)

no_part : (v w : Value) (s : Step) → is_single v ≡ true → part v s ≡ Some w → ⊥
no_part (number z) w s e f = cc
no_part (reference r) w s e f = cc
no_part (array l vs) w s e f = cc
no_part (structure m ms) w s e f = cc
no_part (instance m ms) w s e f = cc

pub one_or_apart : (ss ts : List Step) (v x y : Value) → value_at v ss ≡ Some x → is_single x ≡ true → value_at v ts ≡ Some y → is_single y ≡ true → (ss ≡ ts) ⊎ Apart ss ts
one_or_apart [] [] v x y e f g h = inl refl
one_or_apart [] (t ∷ ts) v x y e f g h =
    let a = then_some (part v t) (λ w. value_at w ts) y g in
    let d : x ≡ v = cc in
    absurd (no_part v a.0 t (subst (λ w. is_single w ≡ true) d f) a.1)
one_or_apart (s ∷ ss) [] v x y e f g h =
    let a = then_some (part v s) (λ w. value_at w ss) x e in
    let d : y ≡ v = cc in
    absurd (no_part v a.0 s (subst (λ w. is_single w ≡ true) d h) a.1)
one_or_apart (s ∷ ss) (t ∷ ts) v x y e f g h =
    let a = then_some (part v s) (λ w. value_at w ss) x e in
    let b = then_some (part v t) (λ w. value_at w ts) y g in
    ⊎_elim
    (λ q.
    let c : part v s ≡ Some b.0 = subst (λ r. part v r ≡ Some b.0) (sym q) b.1 in
    let d : b.0 ≡ a.0 = let z = a.1 in cc in
    ⊎_elim (λ r. inl (ap₂ (λ z zs. z ∷ zs) q r)) (λ r. inr (inr (q, r))) (one_or_apart ss ts a.0 x y a.2 f (subst (λ w. value_at w ts ≡ Some y) d b.2) h))
    (λ n. inr (inl n))
    (step_decided s t)

-- ---- rows

-- the write is of what the value that is to be made has in a place that is single
pub record Right (v made : Value) (w : Write) : Type 0 where
  pub was : Value
  pub there : value_at v w.steps ≡ Some was
  pub single : is_single was ≡ true
  pub new_single : is_single w.value ≡ true
  pub is : value_at made w.steps ≡ Some w.value

-- in each place that is single either one of the writes is made or the two values are equal
pub record Enough (v made : Value) (ws : List Write) : Type 0 where
  pub by : (ss : List Step) (x y : Value) → value_at v ss ≡ Some x → is_single x ≡ true → value_at made ss ≡ Some y → IsAmong ss ws ⊎ (x ≡ y)

-- what is in a place after one write: what was written, or what was there
after : (v v' made : Value) (w : Write) (ss : List Step) (x : Value) → Right v made w → value_with v w.steps w.value ≡ Some v' → value_at v' ss ≡ Some x → is_single x ≡ true
    → ((w.steps ≡ ss) × (x ≡ w.value)) ⊎ (value_at v ss ≡ Some x)
after v v' made w ss x r e f g =
    let here = value_laws.same v w.value v' w.steps e in
    ⊎_elim
    (λ q. let k : value_at v' ss ≡ Some w.value = subst (λ ts. value_at v' ts ≡ Some w.value) q here in inl (q, let z = f in cc))
    (λ q. inr (sym (value_laws.other v w.value v' w.steps ss q e) ∙ f))
    (one_or_apart w.steps ss v' w.value x here r.new_single f g)

-- a place that was single still is
still : (v v' made : Value) (w : Write) (ss : List Step) (x : Value) → Right v made w → value_with v w.steps w.value ≡ Some v' → value_at v ss ≡ Some x → is_single x ≡ true
    → (y : Value) × (value_at v' ss ≡ Some y) × (is_single y ≡ true)
still v v' made w ss x r e f g =
    ⊎_elim
    (λ q. (w.value, subst (λ ts. value_at v' ts ≡ Some w.value) q (value_laws.same v w.value v' w.steps e), r.new_single))
    (λ q. (x, value_laws.other v w.value v' w.steps ss q e ∙ f, g))
    (one_or_apart w.steps ss v r.was x r.there r.single f g)

all_still : (ws : List Write) (v v' made : Value) (w : Write) → Right v made w → value_with v w.steps w.value ≡ Some v' → Each (Right v made) ws → Each (Right v' made) ws
all_still [] v v' made w r e a = tt
all_still (x ∷ ws) v v' made w r e a =
    let s = still v v' made w x.steps a.0.was r e a.0.there a.0.single in
    (record { was = s.0; there = s.1; single = s.2; new_single = a.0.new_single; is = a.0.is }, all_still ws v v' made w r e a.1)

enough_still : (ws : List Write) (v v' made : Value) (w : Write) → Right v made w → value_with v w.steps w.value ≡ Some v' → Enough v made (w ∷ ws) → Enough v' made ws
enough_still ws v v' made w r e a = record {
  by = λ ss x y f g h.
      let there : w.steps ≡ ss → x ≡ w.value → x ≡ y =
      λ q k. let m : value_at made ss ≡ Some w.value = subst (λ ts. value_at made ts ≡ Some w.value) q r.is in let z : w.value ≡ y = cc in k ∙ z in
      ⊎_elim
      (λ q. inr (there q.0 q.1))
      (λ q.
      ⊎_elim
      (λ i.
      ⊎_elim
      (λ j. let m : value_at v' ss ≡ Some w.value = subst (λ ts. value_at v' ts ≡ Some w.value) j (value_laws.same v w.value v' w.steps e) in let z : x ≡ w.value = cc in inr (there j z))
      (λ j. inl j) i)
      (λ i. inr i) (a.by ss x y q g h))
      (after v v' made w ss x r e f g);
}

-- such a row makes the value
pub row_makes : (ws : List Write) (v made : Value) → frame v ≡ frame made → Each (Right v made) ws → Enough v made ws → written v ws ≡ Some made
row_makes [] v made f a b = ap Some (equal v made f (record { by = λ ss x y e g h. ⊎_elim (λ i. absurd i) (λ i. i) (b.by ss x y e h g) }))
row_makes (w ∷ ws) v made f a b =
    let n = value_laws.there v w.value a.0.was w.steps a.0.there in
    let g : frame n.0 ≡ frame made = framed w.steps v n.0 a.0.was w.value a.0.there (frame_single w.value a.0.new_single ∙ sym (frame_single a.0.was a.0.single)) n.1 ∙ f in
    then_is (value_with v w.steps w.value) (λ x. written x ws) n.0 made n.1
    (row_makes ws n.0 made g (all_still ws v n.0 made w a.0 n.1 a.1) (enough_still ws v n.0 made w a.0 n.1 b))

-- and a row of right writes that makes the value is such a row
pub makes_enough : (ws : List Write) (v made : Value) → Each (Right v made) ws → written v ws ≡ Some made → Enough v made ws
makes_enough [] v made a e = record { by = λ ss x y f g h. let d : v ≡ made = cc in let m : value_at v ss ≡ Some y = subst (λ u. value_at u ss ≡ Some y) (sym d) h in inr cc }
makes_enough (w ∷ ws) v made a e =
    let n = then_some (value_with v w.steps w.value) (λ x. written x ws) made e in
    let rest = makes_enough ws n.0 made (all_still ws v n.0 made w a.0 n.1 a.1) n.2 in
    record {
      by = λ ss x y f g h.
          ⊎_elim
          (λ q. inl (inl q))
          (λ q.
          let same : value_at n.0 ss ≡ Some x = value_laws.other v w.value n.0 w.steps ss q n.1 ∙ f in
          ⊎_elim (λ i. inl (inr i)) (λ i. inr i) (rest.by ss x y same g h))
          (one_or_apart w.steps ss v a.0.was x a.0.there a.0.single f g);
    }
