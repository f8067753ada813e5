-- The same of stores, and the laws of writes.
use Rattle.std.proofs.Common.{◌≡◌, ◌<◌, ℕ, zero, suc, ◌+◌, Bool, true, false, List, [], ◌∷◌, ◌++◌, length, Option, Some, None, refl, sym, ap, ap₂, ◌∙◌, subst, inl, inr, arith}
use Rattle.std.proofs.lemmas.Bool.{eqb-true, eq-eqb}
use Rattle.std.specs.Prelude.{◌≢◌, nat_eq, ◌↔◌, ◌⊎◌, if◌then◌else◌, ◌&&◌, option_map, slice_get}
use Rattle.st_tree.specs.declared.path.Path.{Path}
use Rattle.st_tree.specs.declared.path.Step.{Step}
use Rattle.st_tree.specs.declared.path.Step.TheVariants as step
use Rattle.st_values.specs.Program.{Region, Program}
use Rattle.st_values.specs.Value.{Value, structure, no_members, member_then, Store, ◌>>=◌, member, with_member, value_at, value_with, at, put}
use Rattle.st_values.specs.Shape.{Shape, shape_at, shape_of, region_shape, path_shape}
use Rattle.st_meaning.specs.st_frame.Good.{Fit, Good}
use Rattle.st_meaning.specs.st_frame.Promise.Declarations.{Each}
use Rattle.st_change.specs.From.{same_flag}
use Rattle.st_change.specs.Counterpart.{kept}
use Rattle.st_change.specs.Carry.{stays, carry}
use Rattle.st_change.specs.Change.{region_before, carried_region, carry_regions, carry_store}
use Rattle.st_change.proofs.Names.{then_is, then_some, mapped_some}
use Rattle.st_change.proofs.Members.{each_both}
use Rattle.st_change.specs.carry_places.Places.{old_along, old_at, none_stays, region_goes, goes}
use Rattle.st_change.specs.carry_places.Writes.{Write, written, is_single, IsAmong, Carries, Covers}
use Rattle.st_change.specs.carry_places.StoreWrites.{StoreWrite, stored, IsPut, StoreCarries, StoreCovers}
use Rattle.st_change.specs.carry_places.WriteLaws.{WriteLaws}
use Rattle.st_change.proofs.carry_places.Carried.{store_carried}
use Rattle.st_change.proofs.carry_places.Rows.{row, carry_single}
use Rattle.st_change.proofs.carry_places.AnyRows.{frame, frames_of, Right, Enough, row_makes, makes_enough}
use Rattle.st_change.proofs.carry_places.Writes.{if_true, if_false, joined, shaped, frame_if, carry_framed, any_row}

abbrev path_of : ℕ → List Step → Path
path_of r ss = record { region = r; steps = ss }

-- ---- a store as one value

abbrev whole : Store → Value
whole s = structure [] s

abbrev into_whole : StoreWrite → Write
into_whole w = record { steps = step.Field w.path.region ∷ w.path.steps; value = w.value }

abbrev all_into : List StoreWrite → List Write
all_into [] = []
all_into (w ∷ ws) = into_whole w ∷ all_into ws

one_into : (s : Store) (q : Path) (new : Value) → value_with (whole s) (step.Field q.region ∷ q.steps) new ≡ option_map whole (put s q new)
one_into s q new = by (member s q.region)
  where
    last : (o : Option Value) → (o >>= λ w. Some (whole (with_member s q.region w))) ≡ option_map whole (o >>= λ w. Some (with_member s q.region w))
    last None = refl
    last (Some w) = refl

    by : (o : Option Value) → (o >>= λ v. value_with v q.steps new >>= λ w. Some (whole (with_member s q.region w))) ≡ option_map whole (o >>= λ v. value_with v q.steps new >>= λ w. Some (with_member s q.region w))
    by None = refl
    by (Some v) = last (value_with v q.steps new)

into : (ws : List StoreWrite) (s : Store) → written (whole s) (all_into ws) ≡ option_map whole (stored s ws)
into [] s = refl
into (w ∷ ws) s = ap (λ o. o >>= λ n. written n (all_into ws)) (one_into s w.path w.value) ∙ by (into ws) (put s w.path w.value)
  where
    by : ((n : Store) → written (whole n) (all_into ws) ≡ option_map whole (stored n ws)) → (o : Option Store) → (option_map whole o >>= λ n. written n (all_into ws)) ≡ option_map whole (o >>= λ n. stored n ws)
    by h None = refl
    by h (Some n) = h n

into_among : (ws : List StoreWrite) (r : ℕ) (ss : List Step) → IsPut (path_of r ss) ws → IsAmong (step.Field r ∷ ss) (all_into ws)
into_among [] r ss h = absurd h
into_among (w ∷ ws) r ss (inl e) = inl (ap (λ q. step.Field q.region ∷ q.steps) e)
into_among (w ∷ ws) r ss (inr h) = inr (into_among ws r ss h)

among_into : (ws : List StoreWrite) (r : ℕ) (ss : List Step) → IsAmong (step.Field r ∷ ss) (all_into ws) → IsPut (path_of r ss) ws
among_into [] r ss h = absurd h
among_into (w ∷ ws) r ss (inl e) = inl (by w.path.region w.path.steps e)
  where
    by : (i : ℕ) (ts : List Step) → step.Field i ∷ ts ≡ step.Field r ∷ ss → path_of i ts ≡ path_of r ss
    by i ts h = let a : i ≡ r = cc in let b : ts ≡ ss = cc in ap₂ path_of a b
among_into (w ∷ ws) r ss (inr h) = inr (among_into ws r ss h)

-- ---- the writes of one region

abbrev in_region : ℕ → List Write → List StoreWrite
in_region r [] = []
in_region r (w ∷ ws) = record { path = path_of r w.steps; value = w.value } ∷ in_region r ws

put_in : (ws : List Write) (r : ℕ) (ss : List Step) → IsAmong ss ws → IsPut (path_of r ss) (in_region r ws)
put_in [] r ss h = absurd h
put_in (w ∷ ws) r ss (inl e) = inl (ap (path_of r) e)
put_in (w ∷ ws) r ss (inr h) = inr (put_in ws r ss h)

put_first : (xs ys : List StoreWrite) (q : Path) → IsPut q xs → IsPut q (xs ++ ys)
put_first [] ys q h = absurd h
put_first (x ∷ xs) ys q (inl e) = inl e
put_first (x ∷ xs) ys q (inr h) = inr (put_first xs ys q h)

put_last : (xs ys : List StoreWrite) (q : Path) → IsPut q ys → IsPut q (xs ++ ys)
put_last [] ys q h = h
put_last (x ∷ xs) ys q h = inr (put_last xs ys q h)

both : (a b : Bool) → (a && b) ≡ true → (a ≡ true) × (b ≡ true)
both true true e = (refl, refl)
both true false e = cc
both false b e = cc

less_or_same : (k n : ℕ) → k < suc n → (k < n) ⊎ (k ≡ n)
less_or_same k n d = by (nat_eq k n) refl
  where
    by : (b : Bool) → nat_eq k n ≡ b → (k < n) ⊎ (k ≡ n)
    by true e = inr (eqb-true k n e)
    by false e = let apart : k ≢ n = λ q. let z = eq-eqb k n q in cc in inl (omega (arith, d, apart))

there_within : (xs : List Region) (r : ℕ) (x : Region) → slice_get xs r ≡ Some x → r < length xs
there_within [] r x e = cc
there_within (y ∷ xs) zero x e = omega arith
there_within (y ∷ xs) (suc r) x e = let h = there_within xs r x e in omega (arith, h)

module _ (old new : Program) (keeping : Bool) (before held : Store) (good : Good new held) where
  abbrev made : Store
  made = carry_store old new keeping before held

  -- ---- the frame

  regions_framed : (xs : List Region) (hs : Store) (r : ℕ) → frames_of (carry_regions old new keeping before r xs hs) ≡ frames_of hs
  regions_framed xs no_members r = refl
  regions_framed [] (member_then n h hs) r = refl
  regions_framed (x ∷ xs) (member_then n h hs) r = ap₂ (member_then n) (by (same_flag keeping (kept old new r)) (region_shape new r)) (regions_framed xs hs (suc r))
    where
      inner : (o : Option Shape) → frame (carried_region old new keeping o x (region_before old new before r) h) ≡ frame h
      inner None = refl
      inner (Some sh) = frame_if old new keeping (stays old new keeping x.variable) (carry old new keeping sh (region_before old new before r) h) h (carry_framed old new keeping h sh (region_before old new before r))

      by : (b : Bool) (o : Option Shape) → frame (if b then carried_region old new keeping o x (region_before old new before r) h else h) ≡ frame h
      by true o = inner o
      by false o = refl

  -- a region without a shape stays
  unshaped : (xs : List Region) (hs : Store) (r k m : ℕ) → m ≡ r + k → region_shape new m ≡ None → member (carry_regions old new keeping before r xs hs) k ≡ member hs k
  unshaped xs no_members r k m d e = refl
  unshaped [] (member_then n h hs) r k m d e = refl
  unshaped (x ∷ xs) (member_then n h hs) r zero m d e =
      let q : m ≡ r = omega arith in
      let none : region_shape new r ≡ None = subst (λ i. region_shape new i ≡ None) q e in
      ap (λ o. Some (if same_flag keeping (kept old new r) then carried_region old new keeping o x (region_before old new before r) h else h)) none
      ∙ ap Some (by (same_flag keeping (kept old new r)))
    where
      by : (b : Bool) → (if b then h else h) ≡ h
      by true = refl
      by false = refl
  unshaped (x ∷ xs) (member_then n h hs) r (suc k) m d e = let q : m ≡ suc r + k = omega arith in unshaped xs hs (suc r) k m q e

  -- ---- the writes are right

  right : (w : StoreWrite) → StoreCarries old new keeping before held w → Right (whole held) (whole made) (into_whole w)
  right w c = record {
    was = c.was;
    there = c.holds;
    single = carry_single old new keeping c.leaf (old_at old new before w.path) c.was (ap is_single (sym c.is) ∙ c.single);
    new_single = c.single;
    is =
        store_carried old new keeping before held w.path c.leaf c.was good c.there c.holds
        ∙ ap (λ b. Some (if b then carry old new keeping c.leaf (old_at old new before w.path) c.was else c.was)) c.free
        ∙ ap Some (sym c.is);
  }

  all_right : (ws : List StoreWrite) → Each (StoreCarries old new keeping before held) ws → Each (Right (whole held) (whole made)) (all_into ws)
  all_right [] c = tt
  all_right (w ∷ ws) c = (right w c.0, all_right ws c.1)

  -- ---- and enough

  module _ (ws : List StoreWrite) where
    shaped_enough : StoreCovers old new keeping before held ws → (q : Path) (leaf : Shape) (x y : Value) → path_shape new q ≡ Some leaf → at held q ≡ Some x → is_single x ≡ true → at made q ≡ Some y → IsPut q ws ⊎ (x ≡ y)
    shaped_enough c q leaf x y e f g h =
        let to = carry old new keeping leaf (old_at old new before q) x in
        by to (goes old new keeping q) refl (sym (store_carried old new keeping before held q leaf x good e f) ∙ h) (c.by q leaf x e f g)
      where
        by : (to : Value) (b : Bool) → goes old new keeping q ≡ b → Some (if goes old new keeping q then to else x) ≡ Some y → (goes old new keeping q ≡ true → IsPut q ws ⊎ (to ≡ x)) → IsPut q ws ⊎ (x ≡ y)
        by to true k m go = joined (IsPut q ws) to x y (go k) (if_true (goes old new keeping q) to x y k m)
        by to false k m go = inr (if_false (goes old new keeping q) to x y k m)

    region_enough : StoreCovers old new keeping before held ws → (r : ℕ) (ss : List Step) (x y : Value) (o : Option Shape) → region_shape new r ≡ o → at held (path_of r ss) ≡ Some x → is_single x ≡ true
        → at made (path_of r ss) ≡ Some y → IsPut (path_of r ss) ws ⊎ (x ≡ y)
    region_enough c r ss x y None k f g h =
        let z : r ≡ 0 + r = omega arith in
        let u : member made r ≡ member held r = unshaped new.regions held 0 r r z k in
        let v : at held (path_of r ss) ≡ Some y = sym (ap (λ o. o >>= λ w. value_at w ss) u) ∙ h in
        inr (one x y (sym f ∙ v))
      where
        one : (a b : Value) → Some a ≡ Some b → a ≡ b
        one a b e = cc
    region_enough c r ss x y (Some sh) k f g h =
        let v = then_some (member held r) (λ w. value_at w ss) x f in
        let i = (good.each r).by sh k in
        let d : i.0 ≡ v.0 = let p = i.1 in let q = v.1 in cc in
        let s = shaped new ss sh v.0 x (subst (Fit new sh) d i.2) v.2 in
        shaped_enough c (path_of r ss) s.0 x y (then_is (region_shape new r) (λ u. shape_at u ss) sh s.0 k s.1) f g h

    whole_enough : StoreCovers old new keeping before held ws → (ss : List Step) (x y : Value) → value_at (whole held) ss ≡ Some x → is_single x ≡ true → value_at (whole made) ss ≡ Some y → IsAmong ss (all_into ws) ⊎ (x ≡ y)
    whole_enough c [] x y e f g = let d : whole held ≡ x = cc in let q : false ≡ true = ap is_single d ∙ f in absurd cc
    whole_enough c (step.Element i ∷ ss) x y e f g = cc
    whole_enough c (step.Field r ∷ ss) x y e f g = by (region_enough c r ss x y (region_shape new r) refl e f g)
      where
        by : IsPut (path_of r ss) ws ⊎ (x ≡ y) → IsAmong (step.Field r ∷ ss) (all_into ws) ⊎ (x ≡ y)
        by (inl h) = inl (into_among ws r ss h)
        by (inr h) = inr h

    covered : Enough (whole held) (whole made) (all_into ws) → StoreCovers old new keeping before held ws
    covered c = record {
      by = λ q leaf h e f g k.
          let to = carry old new keeping leaf (old_at old new before q) h in
          let there : at made q ≡ Some to = store_carried old new keeping before held q leaf h good e f ∙ ap (λ b. Some (if b then to else h)) k in
          by q.region q.steps h to (c.by (step.Field q.region ∷ q.steps) h to f g there);
    }
      where
        by : (r : ℕ) (ss : List Step) (h to : Value) → IsAmong (step.Field r ∷ ss) (all_into ws) ⊎ (h ≡ to) → IsPut (path_of r ss) ws ⊎ (to ≡ h)
        by r ss h to (inl a) = inl (among_into ws r ss a)
        by r ss h to (inr e) = inr (sym e)

    pub any_store_row : Each (StoreCarries old new keeping before held) ws → (stored held ws ≡ Some made) ↔ StoreCovers old new keeping before held ws
    any_store_row c = (
      λ e. covered (makes_enough (all_into ws) (whole held) (whole made) (all_right ws c) (into ws held ∙ ap (option_map whole) e)),
      λ k.
          let e = row_makes (all_into ws) (whole held) (whole made) (ap (structure []) (sym (regions_framed new.regions held 0))) (all_right ws c) (record { by = whole_enough k }) in
          let a = mapped_some whole (stored held ws) (whole made) (sym (into ws held) ∙ e) in
          a.1 ∙ ap Some (same_members a.0 made a.2),
    )
      where
        same_members : (s t : Store) → whole s ≡ whole t → s ≡ t
        same_members s t e = cc

  -- ---- there is such a row

  -- writes of what is carried, which leave out no place of some regions
  record RowFor (regions : ℕ → Type 0) : Type 0 where
    ws : List StoreWrite
    each : Each (StoreCarries old new keeping before held) ws
    covers : (q : Path) (leaf : Shape) (h : Value) → regions q.region → path_shape new q ≡ Some leaf → at held q ≡ Some h → is_single h ≡ true → goes old new keeping q ≡ true → IsPut q ws ⊎ (carry old new keeping leaf (old_at old new before q) h ≡ h)

  region_carries : (r : ℕ) (sh : Shape) (v : Value) (w : Write) → region_shape new r ≡ Some sh → member held r ≡ Some v → region_goes old new keeping r (slice_get new.regions r) ≡ true
      → Carries old new keeping sh (region_before old new before r) v w → StoreCarries old new keeping before held (record { path = path_of r w.steps; value = w.value })
  region_carries r sh v w e f g c = record {
    leaf = c.leaf;
    was = c.was;
    there = then_is (region_shape new r) (λ u. shape_at u w.steps) sh c.leaf e c.there;
    holds = then_is (member held r) (λ u. value_at u w.steps) v c.was f c.holds;
    single = c.single;
    free = ap₂ (λ b o. b && none_stays old new keeping o w.steps) g e ∙ c.free;
    is = c.is ∙ ap (λ o. carry old new keeping c.leaf (o >>= λ u. old_along old new u (region_before old new before r) w.steps) c.was) (sym e);
  }

  all_carry : (ws : List Write) (r : ℕ) (sh : Shape) (v : Value) → region_shape new r ≡ Some sh → member held r ≡ Some v → region_goes old new keeping r (slice_get new.regions r) ≡ true
      → Each (Carries old new keeping sh (region_before old new before r) v) ws → Each (StoreCarries old new keeping before held) (in_region r ws)
  all_carry [] r sh v e f g c = tt
  all_carry (w ∷ ws) r sh v e f g c = (region_carries r sh v w e f g c.0, all_carry ws r sh v e f g c.1)

  -- what the writes of a region say of the place behind these steps in the region of this number
  record Claim (r : ℕ) (ws : List Write) (ss : List Step) (leaf : Shape) (h : Value) (i : ℕ) : Type 0 where
    by : path_shape new (path_of i ss) ≡ Some leaf → at held (path_of i ss) ≡ Some h → goes old new keeping (path_of i ss) ≡ true → IsPut (path_of i ss) (in_region r ws) ⊎ (carry old new keeping leaf (old_at old new before (path_of i ss)) h ≡ h)

  claim : (r : ℕ) (sh : Shape) (v : Value) (ws : List Write) (ss : List Step) (leaf : Shape) (h : Value) → region_shape new r ≡ Some sh → member held r ≡ Some v
      → Covers old new keeping sh (region_before old new before r) v ws → is_single h ≡ true → Claim r ws ss leaf h r
  claim r sh v ws ss leaf h e there c m = record {
    by = λ k l n.
        let a : shape_at sh ss ≡ Some leaf = sym (ap (λ o. o >>= λ u. shape_at u ss) e) ∙ k in
        let b : value_at v ss ≡ Some h = sym (ap (λ o. o >>= λ u. value_at u ss) there) ∙ l in
        let f = both (region_goes old new keeping r (slice_get new.regions r)) (none_stays old new keeping (region_shape new r) ss) n in
        let g : none_stays old new keeping (Some sh) ss ≡ true = sym (ap (λ o. none_stays old new keeping o ss) e) ∙ f.1 in
        by (c.by ss leaf h a b m g);
  }
    where
      by : IsAmong ss ws ⊎ (carry old new keeping leaf (old_along old new sh (region_before old new before r) ss) h ≡ h) → IsPut (path_of r ss) (in_region r ws) ⊎ (carry old new keeping leaf (old_at old new before (path_of r ss)) h ≡ h)
      by (inl i) = inl (put_in ws r ss i)
      by (inr q) = inr (ap (λ o. carry old new keeping leaf (o >>= λ u. old_along old new u (region_before old new before r) ss) h) e ∙ q)

  region_row : (r : ℕ) (o : Option Shape) → region_shape new r ≡ o → (b : Bool) → region_goes old new keeping r (slice_get new.regions r) ≡ b → RowFor (λ k. k ≡ r)
  region_row r None e b f = record { ws = []; each = tt; covers = λ q leaf h d k l m n. absurd (none q leaf d k) }
    where
      none : (q : Path) (leaf : Shape) → q.region ≡ r → path_shape new q ≡ Some leaf → ⊥
      none q leaf d k = let a = then_some (region_shape new q.region) (λ u. shape_at u q.steps) leaf k in let c : region_shape new q.region ≡ None = ap (region_shape new) d ∙ e in let z = a.1 in absurd cc
  region_row r (Some sh) e false f = record { ws = []; each = tt; covers = λ q leaf h d k l m n. absurd (none q d n) }
    where
      none : (q : Path) → q.region ≡ r → goes old new keeping q ≡ true → ⊥
      none q d n =
          let a = both (region_goes old new keeping q.region (slice_get new.regions q.region)) (none_stays old new keeping (region_shape new q.region) q.steps) n in
          let c : region_goes old new keeping q.region (slice_get new.regions q.region) ≡ false = ap (λ i. region_goes old new keeping i (slice_get new.regions i)) d ∙ f in
          let z : false ≡ true = sym c ∙ a.0 in
          absurd cc
  region_row r (Some sh) e true f =
      let i = (good.each r).by sh e in
      let o = region_before old new before r in
      let a = row old new keeping i.0 sh o i.2 in
      let c = (any_row old new keeping sh o i.0 i.2 a.ws a.each).0 a.makes in
      record {
        ws = in_region r a.ws;
        each = all_carry a.ws r sh i.0 e i.1 f a.each;
        covers = λ q leaf h d k l m n. by i.0 i.1 a.ws c q.region q.steps leaf h d k l m n;
      }
    where
      by : (v : Value) → member held r ≡ Some v → (ws : List Write) → Covers old new keeping sh (region_before old new before r) v ws → (j : ℕ) (ss : List Step) (leaf : Shape) (h : Value) → j ≡ r
          → path_shape new (path_of j ss) ≡ Some leaf → at held (path_of j ss) ≡ Some h → is_single h ≡ true → goes old new keeping (path_of j ss) ≡ true
          → IsPut (path_of j ss) (in_region r ws) ⊎ (carry old new keeping leaf (old_at old new before (path_of j ss)) h ≡ h)
      by v there ws c j ss leaf h d k l m n = (subst (Claim r ws ss leaf h) (sym d) (claim r sh v ws ss leaf h e there c m)).by k l n

  -- ---- all regions

  either_row : (P Q : ℕ → Type 0) → RowFor P → RowFor Q → RowFor (λ k. P k ⊎ Q k)
  either_row P Q a b = record {
    ws = a.ws ++ b.ws;
    each = each_both (StoreCarries old new keeping before held) a.ws b.ws a.each b.each;
    covers = λ q leaf h d k l m n. by q leaf h k l m n d;
  }
    where
      first : (A : Type 0) (q : Path) → IsPut q a.ws ⊎ A → IsPut q (a.ws ++ b.ws) ⊎ A
      first A q (inl h) = inl (put_first a.ws b.ws q h)
      first A q (inr h) = inr h

      last : (A : Type 0) (q : Path) → IsPut q b.ws ⊎ A → IsPut q (a.ws ++ b.ws) ⊎ A
      last A q (inl h) = inl (put_last a.ws b.ws q h)
      last A q (inr h) = inr h

      by : (q : Path) (leaf : Shape) (h : Value) → path_shape new q ≡ Some leaf → at held q ≡ Some h → is_single h ≡ true → goes old new keeping q ≡ true → P q.region ⊎ Q q.region
          → IsPut q (a.ws ++ b.ws) ⊎ (carry old new keeping leaf (old_at old new before q) h ≡ h)
      by q leaf h k l m n (inl d) = first (carry old new keeping leaf (old_at old new before q) h ≡ h) q (a.covers q leaf h d k l m n)
      by q leaf h k l m n (inr d) = last (carry old new keeping leaf (old_at old new before q) h ≡ h) q (b.covers q leaf h d k l m n)

  fewer : (P Q : ℕ → Type 0) → ((k : ℕ) → Q k → P k) → RowFor P → RowFor Q
  fewer P Q f a = record { ws = a.ws; each = a.each; covers = λ q leaf h d k l m n. a.covers q leaf h (f q.region d) k l m n }

  below_row : (n : ℕ) → RowFor (λ k. k < n)
  below_row zero = record { ws = []; each = tt; covers = λ q leaf h d k l m n. absurd (omega (arith, d)) }
  below_row (suc n) =
      fewer (λ k. (k < n) ⊎ (k ≡ n)) (λ k. k < suc n) (λ k d. less_or_same k n d)
      (either_row (λ k. k < n) (λ k. k ≡ n) (below_row n) (region_row n (region_shape new n) refl (region_goes old new keeping n (slice_get new.regions n)) refl))

  pub store_row : (ws : List StoreWrite) × Each (StoreCarries old new keeping before held) ws × (stored held ws ≡ Some made)
  store_row =
      let a = below_row (length new.regions) in
      let c : StoreCovers old new keeping before held a.ws = record { by = λ q leaf h e f g k. a.covers q leaf h (within q leaf e) e f g k } in
      (a.ws, a.each, (any_store_row a.ws a.each).1 c)
    where
      within : (q : Path) (leaf : Shape) → path_shape new q ≡ Some leaf → q.region < length new.regions
      within q leaf e =
          let a = then_some (region_shape new q.region) (λ u. shape_at u q.steps) leaf e in
          let b = then_some (slice_get new.regions q.region) (λ x. shape_of new x.variable.kind) a.0 a.1 in
          there_within new.regions q.region b.0 b.1

pub write_laws : WriteLaws
write_laws = record {
  row = λ old new keeping sh o held g. let r = row old new keeping held sh o g in (r.ws, r.each, r.makes);
  any = λ old new keeping sh o held ws g c. any_row old new keeping sh o held g ws c;
  store_row = λ old new keeping before held g. store_row old new keeping before held g;
  store_any = λ old new keeping before held ws g c. any_store_row old new keeping before held g ws c;
}
