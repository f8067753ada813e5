-- Stores that contents spell, and contents that spell stores.
use Rattle.std.proofs.Common.{◌≡◌, ◌≤◌, ◌<◌, ℕ, zero, suc, ◌+◌, ℤ, pos, Bool, true, false, List, [], ◌∷◌, length, Option, Some, None, refl, sym, ap, ◌∙◌, subst, inl, inr, ⊎_elim, arith, eq-eqb}
use Rattle.std.specs.Prelude.{◌⊎◌, ◌||◌, nat_eq, slice_get, slice_index_or, if◌then◌else◌}
use Rattle.std.proofs.lemmas.Bool.{eqb-true}
use Rattle.st_rules.specs.Chains.{is_among}
use Rattle.st_values.specs.Program.{Variable, Region, Program}
use Rattle.st_values.specs.Value.{Value, number, Store, Members, no_members, member_then, member, names_of, ◌>>=◌}
use Rattle.st_values.specs.Shape.{Shape, shape_of, region_shape}
use Rattle.st_values.proofs.ValueLaws.{then_some}
use Rattle.st_meaning.specs.st_frame.Good.{Fit, GoodAt, Good, region_names}
use Rattle.st_meaning.specs.st_frame.Promise.Declarations.{Each, VariableFits}
use Rattle.st_meaning.specs.st_frame.Promise.Programs.{ProgramIs}
use Rattle.mem_layout.specs.store_bytes.Place.{size}
use Rattle.mem_layout.specs.store_bytes.Spells.{Spells}
use Rattle.mem_layout.specs.store_bytes.Image.{image_of}
use Rattle.mem_layout.specs.store_bytes.PlaceLaws.{AreSmall}
use Rattle.plant_rules.specs.Meaning.{Contents, bytes_at, Has, Whole}
use Rattle.mem_layout.specs.loaded_meaning.Decoded.{decoded}
use Rattle.mem_layout.specs.loaded_meaning.Sized.{IsSized}
use Rattle.mem_layout.specs.loaded_meaning.Version.{decoded_in, stores_from, store_of, encoded, images_from, images_of, image_there, rewritten, FitAt}
use Rattle.mem_layout.proofs.loaded_meaning.Decoding.{spells_decoded}
use Rattle.mem_layout.proofs.loaded_meaning.Encoding.{image_spells, image_fits}

-- ---- lists

or_same : (b : Bool) → b || true ≡ true
or_same true = refl
or_same false = refl

pub among : (rs : List ℕ) (r : ℕ) → Has rs r → is_among r rs ≡ true
among [] r h = absurd h
among (x ∷ xs) r (inl e) = ap (λ b. b || is_among r xs) (eq-eqb r x e)
among (x ∷ xs) r (inr h) = ap (λ b. nat_eq r x || b) (among xs r h) ∙ or_same (nat_eq r x)

either_true : (a b : Bool) → a || b ≡ true → (a ≡ true) ⊎ (b ≡ true)
either_true true b e = inl refl
either_true false b e = inr e

pub among_has : (rs : List ℕ) (r : ℕ) → is_among r rs ≡ true → Has rs r
among_has [] r e = cc
among_has (x ∷ xs) r e = ⊎_elim (λ h. inl (eqb-true r x h)) (λ h. inr (among_has xs r h)) (either_true (nat_eq r x) (is_among r xs) e)

true_or_false : (b : Bool) → (b ≡ true) ⊎ (b ≡ false)
true_or_false true = inl refl
true_or_false false = inr refl

pub has? : (rs : List ℕ) (r : ℕ) → (Has rs r) ⊎ (is_among r rs ≡ false)
has? rs r = ⊎_elim (λ e. inl (among_has rs r e)) (λ e. inr e) (true_or_false (is_among r rs))

pub not_among : (rs : List ℕ) (r : ℕ) → (Has rs r → ⊥) → is_among r rs ≡ false
not_among rs r h = ⊎_elim (λ k. absurd (h k)) (λ e. e) (has? rs r)

pub there_below : (c : Contents) (r : ℕ) (bytes : List ℕ) → bytes_at c r ≡ Some bytes → r < length c
there_below [] r bytes e = cc
there_below (x ∷ xs) zero bytes e = omega arith
there_below (x ∷ xs) (suc r) bytes e = let h = there_below xs r bytes e in omega arith

get_below : {A : Type 0} (xs : List A) (r : ℕ) (x : A) → slice_get xs r ≡ Some x → r < length xs
get_below [] r x e = cc
get_below (y ∷ ys) zero x e = omega arith
get_below (y ∷ ys) (suc r) x e = let h = get_below ys r x e in omega arith

pub has_item : {A : Type 0} (xs : List A) (r : ℕ) → r < length xs → (x : A) × (slice_get xs r ≡ Some x)
has_item [] r h = absurd (omega arith)
has_item (y ∷ ys) zero h = (y, refl)
has_item (y ∷ ys) (suc r) h = has_item ys r (omega arith)

each_at : {A : Type 0} (P : A → Type 0) (xs : List A) (r : ℕ) (x : A) → Each P xs → slice_get xs r ≡ Some x → P x
each_at P [] r x h e = cc
each_at P (y ∷ ys) zero x h e = let i : y ≡ x = cc in subst P i h.0
each_at P (y ∷ ys) (suc r) x h e = each_at P ys r x h.1 e

-- each region has a shape
pub region_has : (p : Program) → ProgramIs p → (r : ℕ) → r < length p.regions → (sh : Shape) × (region_shape p r ≡ Some sh)
region_has p fine r low =
    let x = has_item p.regions r low in
    let f = each_at (λ y. VariableFits p y.variable) p.regions r x.0 fine.regions x.1 in
    (f.0, ap (λ o. o >>= λ y. shape_of p y.variable.kind) x.1 ∙ f.1)

-- two lists of values with the same names and the same values are the same
pub same_members : (a b : Members) → names_of a ≡ names_of b → ((r : ℕ) → member a r ≡ member b r) → a ≡ b
same_members no_members no_members n h = refl
same_members no_members (member_then m w ws) n h = cc
same_members (member_then m w ws) no_members n h = cc
same_members (member_then m w ws) (member_then k v vs) n h =
    let first : Some w ≡ Some v = h zero in
    let one : w ≡ v = cc in
    let name : m ≡ k = cc in
    let names : names_of ws ≡ names_of vs = cc in
    let rest = same_members ws vs names (λ r. h (suc r)) in
    ap (λ x. member_then x w ws) name ∙ (ap (λ x. member_then k x ws) one ∙ ap (member_then k v) rest)

module _ (p : Program) where
  -- ---- the store

  member_from : (k : ℕ) (xs : List Region) (c : Contents) (r : ℕ) (x : Region) → slice_get xs r ≡ Some x → member (stores_from p k xs c) r ≡ Some (decoded_in p (region_shape p (k + r)) (bytes_at c (k + r)))
  member_from k [] c r x e = cc
  member_from k (y ∷ ys) c zero x e = let i : k ≡ k + 0 = omega arith in ap (λ n. Some (decoded_in p (region_shape p n) (bytes_at c n))) i
  member_from k (y ∷ ys) c (suc r) x e = let i : suc k + r ≡ k + suc r = omega arith in member_from (suc k) ys c r x e ∙ ap (λ n. Some (decoded_in p (region_shape p n) (bytes_at c n))) i

  names_from : (k : ℕ) (xs : List Region) (c : Contents) → names_of (stores_from p k xs c) ≡ region_names xs
  names_from k [] c = refl
  names_from k (x ∷ xs) c = ap (λ ns. x.variable.name ∷ ns) (names_from (suc k) xs c)

  pub names_store : (c : Contents) → names_of (store_of p c) ≡ region_names p.regions
  names_store c = names_from 0 p.regions c

  no_member_from : (k : ℕ) (xs : List Region) (c : Contents) (r : ℕ) → length xs ≤ r → member (stores_from p k xs c) r ≡ None
  no_member_from k [] c r h = refl
  no_member_from k (y ∷ ys) c zero h = absurd (omega arith)
  no_member_from k (y ∷ ys) c (suc r) h = no_member_from (suc k) ys c r (omega arith)

  pub no_member : (c : Contents) (r : ℕ) → length p.regions ≤ r → member (store_of p c) r ≡ None
  no_member c r h = no_member_from 0 p.regions c r h

  shape_region : (r : ℕ) (sh : Shape) → region_shape p r ≡ Some sh → (x : Region) × (slice_get p.regions r ≡ Some x)
  shape_region r sh e = let a = then_some (slice_get p.regions r) (λ x. shape_of p x.variable.kind) sh e in (a.0, a.1)

  pub shape_below : (r : ℕ) (sh : Shape) → region_shape p r ≡ Some sh → r < length p.regions
  shape_below r sh e = let a = shape_region r sh e in get_below p.regions r a.0 a.1

  pub member_store : (c : Contents) (r : ℕ) → r < length p.regions → member (store_of p c) r ≡ Some (decoded_in p (region_shape p r) (bytes_at c r))
  member_store c r h =
      let x = has_item p.regions r h in
      let i : 0 + r ≡ r = omega arith in
      member_from 0 p.regions c r x.0 x.1 ∙ ap (λ n. Some (decoded_in p (region_shape p n) (bytes_at c n))) i

  -- the same bytes spell the same value
  pub member_same : (c d : Contents) (r : ℕ) → bytes_at c r ≡ bytes_at d r → member (store_of p c) r ≡ member (store_of p d) r
  member_same c d r e = by (cases r)
    where
      cases : (r : ℕ) → (r < length p.regions) ⊎ (length p.regions ≤ r)
      cases r = dichotomy r (length p.regions)
        where
          dichotomy : (a b : ℕ) → (a < b) ⊎ (b ≤ a)
          dichotomy zero zero = inr (omega arith)
          dichotomy zero (suc b) = inl (omega arith)
          dichotomy (suc a) zero = inr (omega arith)
          dichotomy (suc a) (suc b) = ⊎_elim (λ h. inl (omega arith)) (λ h. inr (omega arith)) (dichotomy a b)

      by : (r < length p.regions) ⊎ (length p.regions ≤ r) → member (store_of p c) r ≡ member (store_of p d) r
      by (inl h) = member_store c r h ∙ (ap (λ o. Some (decoded_in p (region_shape p r) o)) e ∙ sym (member_store d r h))
      by (inr h) = no_member c r h ∙ sym (no_member d r h)

  module _ (small : AreSmall (region_shape p)) where
    -- what is decoded from fit bytes is the value that they spell
    pub fit_member : (c : Contents) (r : ℕ) (bytes : List ℕ) → bytes_at c r ≡ Some bytes → (f : FitAt p r bytes) → member (store_of p c) r ≡ Some f.value
    fit_member c r bytes e f =
        member_store c r (shape_below r f.shape f.is)
        ∙ (ap (λ o. Some (decoded_in p o (bytes_at c r))) f.is
        ∙ (ap (λ o. Some (decoded_in p (Some f.shape) o)) e
        ∙ ap Some (spells_decoded (region_shape p) small f.shape f.value bytes 0 f.spells)))

    pub fit_good : (c : Contents) (r : ℕ) (bytes : List ℕ) → bytes_at c r ≡ Some bytes → FitAt p r bytes → GoodAt p (region_shape p r) (member (store_of p c) r)
    fit_good c r bytes e f = record {
      by = λ sh k.
          let some : Some f.shape ≡ Some sh = sym f.is ∙ k in
          let same : f.shape ≡ sh = cc in
          (f.value, fit_member c r bytes e f, subst (λ z. Fit p z f.value) same f.fits);
    }

    pub whole_good : (c : Contents) → Whole (FitAt p) (length p.regions) c → Good p (store_of p c)
    whole_good c w = record {
      regions = names_store c;
      each = λ r. record { by = λ sh k. let x = w.1 r (shape_below r sh k) in (fit_good c r x.0 x.1 x.2).by sh k };
    }

  -- ---- images

  length_from : (k : ℕ) (xs : List Region) (s : Store) → length (images_from p k xs s) ≡ length xs
  length_from k [] s = refl
  length_from k (x ∷ xs) s = ap suc (length_from (suc k) xs s)

  pub length_images : (s : Store) → length (images_of p s) ≡ length p.regions
  length_images s = length_from 0 p.regions s

  image_from : (k : ℕ) (xs : List Region) (s : Store) (r : ℕ) → r < length xs → bytes_at (images_from p k xs s) r ≡ Some (encoded p (region_shape p (k + r)) (member s (k + r)))
  image_from k [] s r h = absurd (omega arith)
  image_from k (x ∷ xs) s zero h = let i : k ≡ k + 0 = omega arith in ap (λ n. Some (encoded p (region_shape p n) (member s n))) i
  image_from k (x ∷ xs) s (suc r) h = let i : suc k + r ≡ k + suc r = omega arith in image_from (suc k) xs s r (omega arith) ∙ ap (λ n. Some (encoded p (region_shape p n) (member s n))) i

  pub image_at : (s : Store) (r : ℕ) → r < length p.regions → bytes_at (images_of p s) r ≡ Some (encoded p (region_shape p r) (member s r))
  image_at s r h = let i : 0 + r ≡ r = omega arith in image_from 0 p.regions s r h ∙ ap (λ n. Some (encoded p (region_shape p n) (member s n))) i

  -- ---- contents written anew

  pub length_rewritten : (ws : List ℕ) (k : ℕ) (c : Contents) (s : Store) → length (rewritten p ws k c s) ≡ length c
  length_rewritten ws k [] s = refl
  length_rewritten ws k (o ∷ os) s = ap suc (length_rewritten ws (suc k) os s)

  one_or : (b : Bool) (o : Option (List ℕ)) → o ≡ (if b then o else o)
  one_or true o = refl
  one_or false o = refl

  rewritten_from : (ws : List ℕ) (k : ℕ) (c : Contents) (s : Store) (r : ℕ) → bytes_at (rewritten p ws k c s) r ≡ (if is_among (k + r) ws then image_there p (k + r) (bytes_at c r) (member s (k + r)) else bytes_at c r)
  rewritten_from ws k [] s r = one_or (is_among (k + r) ws) None
  rewritten_from ws k (o ∷ os) s zero = let i : k ≡ k + 0 = omega arith in ap (λ n. if is_among n ws then image_there p n o (member s n) else o) i
  rewritten_from ws k (o ∷ os) s (suc r) =
      let i : suc k + r ≡ k + suc r = omega arith in
      rewritten_from ws (suc k) os s r ∙ ap (λ n. if is_among n ws then image_there p n (bytes_at os r) (member s n) else bytes_at os r) i

  pub rewritten_in : (ws : List ℕ) (c : Contents) (s : Store) (r : ℕ) → Has ws r → bytes_at (rewritten p ws 0 c s) r ≡ image_there p r (bytes_at c r) (member s r)
  rewritten_in ws c s r h =
      let i : 0 + r ≡ r = omega arith in
      rewritten_from ws 0 c s r ∙ (ap (λ n. if is_among n ws then image_there p n (bytes_at c r) (member s n) else bytes_at c r) i ∙ ap (λ b. if b then image_there p r (bytes_at c r) (member s r) else bytes_at c r) (among ws r h))

  pub rewritten_out : (ws : List ℕ) (c : Contents) (s : Store) (r : ℕ) → is_among r ws ≡ false → bytes_at (rewritten p ws 0 c s) r ≡ bytes_at c r
  rewritten_out ws c s r h =
      let i : 0 + r ≡ r = omega arith in
      rewritten_from ws 0 c s r ∙ (ap (λ n. if is_among n ws then image_there p n (bytes_at c r) (member s n) else bytes_at c r) i ∙ ap (λ b. if b then image_there p r (bytes_at c r) (member s r) else bytes_at c r) h)

  module _ (sized : IsSized p) where
    -- where a good value is there, its image is fit and spells it
    pub encoded_fits : (r : ℕ) (sh : Shape) (o : Option Value) → region_shape p r ≡ Some sh → GoodAt p (region_shape p r) o → FitAt p r (encoded p (region_shape p r) o)
    encoded_fits r sh o e g =
        let x = g.by sh e in
        subst (λ z. FitAt p r z) (sym (ap (λ a. encoded p a o) e ∙ ap (λ a. encoded p (Some sh) a) x.1))
        (image_fits p sized.small sized.few r sh x.0 e (sized.counted r sh e) x.2)

    pub encoded_value : (r : ℕ) (sh : Shape) (v : Value) → region_shape p r ≡ Some sh → Fit p sh v → decoded_in p (region_shape p r) (Some (encoded p (region_shape p r) (Some v))) ≡ v
    encoded_value r sh v e h =
        ap (λ a. decoded_in p a (Some (encoded p a (Some v)))) e ∙ spells_decoded (region_shape p) sized.small sh v (image_of (region_shape p) sh v) 0 (image_spells p sized.small sized.few sh v (sized.counted r sh e) h)
