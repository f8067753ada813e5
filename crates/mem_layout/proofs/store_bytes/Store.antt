-- Reading and writing the bytes of regions is reading and writing the store.
use Rattle.std.proofs.Common.{◌≡◌, ◌≢◌, ◌≤◌, ℕ, zero, suc, ◌+◌, ℤ, pos, Bool, true, List, [], ◌∷◌, length, Option, Some, refl, sym, ap, ◌∙◌, subst, ⊎_elim, arith}
use Rattle.std.specs.Prelude.{slice_get, slice_set, slice_range}
use Rattle.st_types.specs.declared.elem.Elem.{Elem}
use Rattle.st_types.specs.declared.elem.Elem.TheVariants.{Ulint}
use Rattle.st_types.specs.Elem.{bytes}
use Rattle.st_types.specs.Range.{Fits}
use Rattle.mem_image.specs.Image.{value_at as number_at, replaced, written}
use Rattle.mem_image.proofs.PartLaws.{length-range, length-replaced}
use Rattle.st_values.specs.Value.{Path, Value, number, reference, Store, ◌>>=◌, member, with_member, value_at, value_with, at, put}
use Rattle.st_values.specs.Shape.{Shape, Elementary, Enumeration, Reference, Interface, Array, Structure, Instance, Fields}
use Rattle.st_values.proofs.ValueLaws.{then_some, one_some, member_put, member_stays, store_laws}
use Rattle.mem_layout.specs.store_bytes.Place.{size, Place, place_of}
use Rattle.mem_layout.specs.store_bytes.Spells.{Holds, HoldsAddress, Refers, Spells, ShowsAt, Shows}
use Rattle.mem_layout.specs.store_bytes.StoreLaws as laws
use Rattle.mem_layout.specs.store_bytes.StoreLaws.{Keeps, IsNumber, IsAddress}
use Rattle.mem_layout.proofs.store_bytes.Moves.{ending_above, moved, read}
use Rattle.mem_layout.proofs.store_bytes.Writes.{inner_within, write}
use Rattle.mem_layout.proofs.store_bytes.Leaves.{value_is, holds_written, keeps_written, length-written, copied_same, keeps_copied}
use Rattle.mem_layout.proofs.store_bytes.Apart.{same_nat}

pub get_set_same : {A : Type 0} → (xs : List A) (i : ℕ) (x y : A) → slice_get xs i ≡ Some y → slice_get (slice_set xs i x) i ≡ Some x
get_set_same [] i x y e = cc
get_set_same (a ∷ xs) zero x y e = refl
get_set_same (a ∷ xs) (suc i) x y e = get_set_same xs i x y e

pub get_set_other : {A : Type 0} → (xs : List A) (i j : ℕ) (x : A) → j ≢ i → slice_get (slice_set xs i x) j ≡ slice_get xs j
get_set_other [] i j x n = refl
get_set_other (a ∷ xs) zero zero x n = absurd (n refl)
get_set_other (a ∷ xs) zero (suc j) x n = refl
get_set_other (a ∷ xs) (suc i) zero x n = refl
get_set_other (a ∷ xs) (suc i) (suc j) x n = get_set_other xs i j x (λ e. n (ap suc e))

-- a number is held where one is spelled
number_held : (regions : ℕ → Option Shape) (sh : Shape) (e : Elem) (v : Value) (im : List ℕ) (i : ℕ) → IsNumber sh e → Spells regions sh v im i → (z : ℤ) × (v ≡ number z) × Holds e z im i
number_held regions (Elementary f) e v im i is h = (h.0, h.1, subst (λ k. Holds k h.0 im i) is h.2)
number_held regions (Enumeration name values) e v im i is h = (h.0, h.1, subst (λ k. Holds k h.0 im i) (sym is) h.2)
number_held regions (Reference c name) e v im i is h = absurd is
number_held regions (Interface c name) e v im i is h = absurd is
number_held regions (Array low n sh) e v im i is h = absurd is
number_held regions (Structure name fs) e v im i is h = absurd is
number_held regions (Instance c name fs) e v im i is h = absurd is

number_spelled : (regions : ℕ → Option Shape) (sh : Shape) (e : Elem) (z : ℤ) (im : List ℕ) (i : ℕ) → IsNumber sh e → Holds e z im i → Spells regions sh (number z) im i
number_spelled regions (Elementary f) e z im i is h = (z, refl, subst (λ k. Holds k z im i) (sym is) h)
number_spelled regions (Enumeration name values) e z im i is h = (z, refl, subst (λ k. Holds k z im i) is h)
number_spelled regions (Reference c name) e z im i is h = absurd is
number_spelled regions (Interface c name) e z im i is h = absurd is
number_spelled regions (Array low n sh) e z im i is h = absurd is
number_spelled regions (Structure name fs) e z im i is h = absurd is
number_spelled regions (Instance c name fs) e z im i is h = absurd is

number_size : (sh : Shape) (e : Elem) → IsNumber sh e → size sh ≡ bytes e
number_size (Elementary f) e is = ap bytes is
number_size (Enumeration name values) e is = sym (ap bytes is)
number_size (Reference c name) e is = absurd is
number_size (Interface c name) e is = absurd is
number_size (Array low n sh) e is = absurd is
number_size (Structure name fs) e is = absurd is
number_size (Instance c name fs) e is = absurd is

address_held : (regions : ℕ → Option Shape) (sh : Shape) (v : Value) (im : List ℕ) (i : ℕ) → IsAddress sh → Spells regions sh v im i → (o : Option Path) × (v ≡ reference o) × HoldsAddress regions o im i
address_held regions (Elementary f) v im i is h = absurd is
address_held regions (Enumeration name values) v im i is h = absurd is
address_held regions (Reference c name) v im i is h = h
address_held regions (Interface c name) v im i is h = h
address_held regions (Array low n sh) v im i is h = absurd is
address_held regions (Structure name fs) v im i is h = absurd is
address_held regions (Instance c name fs) v im i is h = absurd is

address_spelled : (regions : ℕ → Option Shape) (sh : Shape) (o : Option Path) (im : List ℕ) (i : ℕ) → IsAddress sh → HoldsAddress regions o im i → Spells regions sh (reference o) im i
address_spelled regions (Elementary f) o im i is h = absurd is
address_spelled regions (Enumeration name values) o im i is h = absurd is
address_spelled regions (Reference c name) o im i is h = (o, refl, h)
address_spelled regions (Interface c name) o im i is h = (o, refl, h)
address_spelled regions (Array low n sh) o im i is h = absurd is
address_spelled regions (Structure name fs) o im i is h = absurd is
address_spelled regions (Instance c name fs) o im i is h = absurd is

address_size : (sh : Shape) → IsAddress sh → size sh ≡ 8
address_size (Elementary f) is = absurd is
address_size (Enumeration name values) is = absurd is
address_size (Reference c name) is = refl
address_size (Interface c name) is = refl
address_size (Array low n sh) is = absurd is
address_size (Structure name fs) is = absurd is
address_size (Instance c name fs) is = absurd is

module _ (regions : ℕ → Option Shape) (is_held : ℕ → Bool) (images : List (Option (List ℕ))) (store : Store) where
  abbrev Shown : Type 0
  Shown = Shows regions is_held images store

  abbrev Stands : Path → Place → Type 0
  Stands q x = laws.Stands regions images store q x

  abbrev Stored : Path → List ℕ → Value → Type 0
  Stored q im new = laws.Stored regions images store is_held q im new

  stands : Shown → (q : Path) (x : Place) → is_held q.region ≡ true → place_of regions q ≡ Some x → Stands q x
  stands h q x held p =
      let a = then_some (regions q.region) _ x p in
      let g = h.region q.region a.0 held a.1 in
      let r = read regions q.steps a.0 g.value g.image 0 x g.spells a.2 in
      let at : 0 + x.offset ≡ x.offset = omega arith in
      let w = inner_within q.steps a.0 x a.2 in
      record {
        image = g.image;
        value = r.0;
        there = g.there;
        within = omega (arith, w, g.long);
        reads = ap (λ o. o >>= λ v. value_at v q.steps) g.stands ∙ r.1;
        spells = subst (λ n. Spells regions x.shape r.0 g.image n) at r.2;
      }

  -- a region whose image and value are new
  shown_new : (q : Path) (im' im : List ℕ) (w v : Value) (sh : Shape) → slice_get images q.region ≡ Some (Some im) → member store q.region ≡ Some v → length im' ≡ size sh → Spells regions sh w im' 0
      → ShowsAt regions (slice_set images q.region (Some im')) (with_member store q.region w) q.region sh
  shown_new q im' im w v sh here sv total s = record {
    image = im';
    value = w;
    there = get_set_same images q.region (Some im') (Some im) here;
    stands = member_put store q.region v w sv;
    long = total;
    spells = s;
  }

  shown_old : (q : Path) (im' : List ℕ) (w : Value) (r : ℕ) (sh : Shape) → r ≢ q.region → ShowsAt regions images store r sh → ShowsAt regions (slice_set images q.region (Some im')) (with_member store q.region w) r sh
  shown_old q im' w r sh n g = record {
    image = g.image;
    value = g.value;
    there = get_set_other images q.region r (Some im') n ∙ g.there;
    stands = member_stays store q.region r w (λ e. n (sym e)) ∙ g.stands;
    long = g.long;
    spells = g.spells;
  }

  puts : Shown → (q : Path) (x : Place) (im im' : List ℕ) (new : Value) → is_held q.region ≡ true → place_of regions q ≡ Some x → slice_get images q.region ≡ Some (Some im)
      → Keeps im im' x.offset (size x.shape) → length im' ≡ length im → Spells regions x.shape new im' x.offset → Stored q im' new
  puts h q x im im' new held p here c long n =
      let a = then_some (regions q.region) _ x p in
      let g = h.region q.region a.0 held a.1 in
      let both : Some g.image ≡ Some im = one_some (slice_get images q.region) (Some g.image) (Some im) g.there here in
      let same : g.image ≡ im = cc in
      let s0 : Spells regions a.0 g.value im 0 = subst (λ m. Spells regions a.0 g.value m 0) same g.spells in
      let at : x.offset ≡ 0 + x.offset = omega arith in
      let r = write regions q.steps a.0 g.value new im im' 0 x s0 a.2 (subst (λ m. Keeps im im' m (size x.shape)) at c) (subst (λ m. Spells regions x.shape new im' m) at n) in
      let total : length im' ≡ size a.0 = long ∙ (ap length (sym same) ∙ g.long) in
      let is : put store q new ≡ Some (with_member store q.region r.0) =
      ap (λ o. o >>= λ v. value_with v q.steps new >>= λ w. Some (with_member store q.region w)) g.stands ∙ ap (λ o. o >>= λ w. Some (with_member store q.region w)) r.1 in
      record {
        store' = with_member store q.region r.0;
        is = is;
        reads = store_laws.same store (with_member store q.region r.0) q new is;
        others = λ s apart. store_laws.other store (with_member store q.region r.0) q s new apart is;
        shows = record {
          region = λ k sh held' e. ⊎_elim
              (λ (i : k ≡ q.region).
              let own : a.0 ≡ sh = one_some (regions k) a.0 sh (ap regions i ∙ a.1) e in
              subst (λ j. ShowsAt regions (slice_set images q.region (Some im')) (with_member store q.region r.0) j sh) (sym i)
              (shown_new q im' im r.0 g.value sh here g.stands (subst (λ z. length im' ≡ size z) own total) (subst (λ z. Spells regions z r.0 im' 0) own r.2)))
              (λ (i : k ≢ q.region). shown_old q im' r.0 k sh i (h.region k sh held' e))
              (same_nat k q.region);
        };
      }

  -- ---- the memory instructions on regions

  loads : Shown → (q : Path) (x : Place) (e : Elem) → is_held q.region ≡ true → place_of regions q ≡ Some x → IsNumber x.shape e
      → (im : List ℕ) × (slice_get images q.region ≡ Some (Some im)) × (x.offset + bytes e ≤ length im) × (at store q ≡ Some (number (number_at e im x.offset)))
  loads h q x e held p is =
      let s = stands h q x held p in
      let v = number_held regions x.shape e s.value s.image x.offset is s.spells in
      (s.image, s.there, subst (λ n. x.offset + n ≤ length s.image) (number_size x.shape e is) s.within, s.reads ∙ ap Some (v.1 ∙ ap number (sym (value_is e v.0 s.image x.offset v.2))))

  stores : Shown → (q : Path) (x : Place) (e : Elem) (z : ℤ) → is_held q.region ≡ true → place_of regions q ≡ Some x → IsNumber x.shape e → Fits e z
      → (im : List ℕ) × (slice_get images q.region ≡ Some (Some im)) × (x.offset + bytes e ≤ length im) × Stored q (written e im x.offset z) (number z)
  stores h q x e z held p is f =
      let s = stands h q x held p in
      let n = number_size x.shape e is in
      let fits : x.offset + bytes e ≤ length s.image = subst (λ m. x.offset + m ≤ length s.image) n s.within in
      let new = written e s.image x.offset z in (
        s.image,
        s.there,
        fits,
        puts h q x s.image new (number z) held p s.there (subst (Keeps s.image new x.offset) (sym n) (keeps_written e z s.image x.offset fits)) (length-written e z s.image x.offset fits)
            (number_spelled regions x.shape e z new x.offset is (holds_written e z s.image x.offset f fits)),
      )

  loads_reference : Shown → (q : Path) (x : Place) → is_held q.region ≡ true → place_of regions q ≡ Some x → IsAddress x.shape
      → (im : List ℕ) × (o : Option Path) × (w : ℕ) × (slice_get images q.region ≡ Some (Some im)) × (x.offset + 8 ≤ length im) × (number_at Ulint im x.offset ≡ pos w) × Refers regions o w × (at store q ≡ Some (reference o))
  loads_reference h q x held p is =
      let s = stands h q x held p in
      let v = address_held regions x.shape s.value s.image x.offset is s.spells in
      (s.image, v.0, v.2.word, s.there, subst (λ n. x.offset + n ≤ length s.image) (address_size x.shape is) s.within, value_is Ulint (pos v.2.word) s.image x.offset v.2.holds, v.2.refers, s.reads ∙ ap Some v.1)

  stores_reference : Shown → (q : Path) (x : Place) (o : Option Path) (w : ℕ) → is_held q.region ≡ true → place_of regions q ≡ Some x → IsAddress x.shape → Refers regions o w → Fits Ulint (pos w)
      → (im : List ℕ) × (slice_get images q.region ≡ Some (Some im)) × (x.offset + 8 ≤ length im) × Stored q (written Ulint im x.offset (pos w)) (reference o)
  stores_reference h q x o w held p is rf f =
      let s = stands h q x held p in
      let n = address_size x.shape is in
      let fits : x.offset + 8 ≤ length s.image = subst (λ m. x.offset + m ≤ length s.image) n s.within in
      let new = written Ulint s.image x.offset (pos w) in (
        s.image,
        s.there,
        fits,
        puts h q x s.image new (reference o) held p s.there (subst (Keeps s.image new x.offset) (sym n) (keeps_written Ulint (pos w) s.image x.offset fits)) (length-written Ulint (pos w) s.image x.offset fits)
            (address_spelled regions x.shape o new x.offset is (record { word = w; refers = rf; holds = holds_written Ulint (pos w) s.image x.offset f fits })),
      )

  loads_class : Shown → (q : Path) (x : Place) (c : ℕ) (name : List ℕ) (fs : Fields) → is_held q.region ≡ true → place_of regions q ≡ Some x → x.shape ≡ Instance c name fs
      → (im : List ℕ) × (slice_get images q.region ≡ Some (Some im)) × (x.offset + 8 ≤ length im) × (number_at Ulint im x.offset ≡ pos c)
  loads_class h q x c name fs held p is =
      let s = stands h q x held p in
      let v = subst (λ sh. Spells regions sh s.value s.image x.offset) is s.spells in
      let wide = subst (λ sh. x.offset + size sh ≤ length s.image) is s.within in
      (s.image, s.there, omega (arith, wide, ending_above fs 8), value_is Ulint (pos c) s.image x.offset v.2)

  copies : Shown → (q q' : Path) (x x' : Place) → is_held q.region ≡ true → is_held q'.region ≡ true → place_of regions q ≡ Some x → place_of regions q' ≡ Some x' → x.shape ≡ x'.shape
      → (source : List ℕ) × (im : List ℕ) × (v : Value) × (slice_get images q.region ≡ Some (Some source)) × (slice_get images q'.region ≡ Some (Some im)) × (x.offset + size x.shape ≤ length source) × (x'.offset + size x.shape ≤ length im)
      × (at store q ≡ Some v) × Stored q' (replaced im x'.offset (slice_range source x.offset (x.offset + size x.shape))) v
  copies h q q' x x' held held' p p' is =
      let s = stands h q x held p in
      let t = stands h q' x' held' p' in
      let n = size x.shape in
      let to : x'.offset + n ≤ length t.image = subst (λ sh. x'.offset + size sh ≤ length t.image) (sym is) t.within in
      let part = slice_range s.image x.offset (x.offset + n) in
      let new = replaced t.image x'.offset part in
      let long = length-range s.image x.offset n s.within in
      let spelled : Spells regions x'.shape s.value new x'.offset =
      subst (λ sh. Spells regions sh s.value new x'.offset) is (moved regions x.shape s.value s.image new x.offset x'.offset (copied_same t.image s.image x'.offset x.offset n to s.within) s.spells) in (
        s.image,
        t.image,
        s.value,
        s.there,
        t.there,
        s.within,
        to,
        s.reads,
        puts h q' x' t.image new s.value held' p' t.there (subst (λ sh. Keeps t.image new x'.offset (size sh)) is (keeps_copied t.image s.image x'.offset x.offset n to s.within)) (length-replaced t.image part x'.offset (omega (arith, long, to))) spelled,
      )

  pub laws_of_store : laws.StoreLaws regions is_held images store
  laws_of_store = record {
    stands = stands;
    puts = puts;
    loads = loads;
    stores = stores;
    loads_reference = loads_reference;
    stores_reference = stores_reference;
    loads_class = loads_class;
    copies = copies;
  }
