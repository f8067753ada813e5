-- Addresses of places that are kept as numbers.
use Rattle.std.proofs.Common.{◌≡◌, ◌≢◌, ◌≤◌, ◌<◌, ℕ, suc, ◌+◌, ◌-◌, ◌*◌, pos, Bool, true, false, List, [], ◌∷◌, length, Option, Some, None, refl, sym, ap, ◌∙◌, subst, arith}
use Rattle.std.proofs.lemmas.Int.{ints}
use Rattle.std.specs.Prelude.{if◌then◌else◌, slice_get, nat_lt, nat_eq}
use Rattle.std.proofs.lemmas.Bool.{lt-ltb, eqb-true, eq-eqb}
use Rattle.st_types.specs.Range.{Fits}
use Rattle.st_types.specs.declared.elem.Elem.TheVariants as elem
use Rattle.plc_num.proofs.WrappingLaws.{wrapped-fits}
use Rattle.st_tree.specs.declared.path.Path.{Path}
use Rattle.st_values.specs.Program.{Program}
use Rattle.st_values.specs.Value.{◌>>=◌ as ◌>>?◌}
use Rattle.st_values.specs.Shape.{region_shape, Instance, Fields, path_shape}
use Rattle.st_values.proofs.ValueLaws.{then_some}
use Rattle.st_meaning.specs.State.{Spot, in_store, in_frame, Frame, State}
use Rattle.stack_code.specs.declared.memory.Space.TheVariants.{Regions, Locals}
use Rattle.stack_code.specs.declared.memory.Address.{Address}
use Rattle.stack_code.specs.Memory.{Memory, kept, reference_of}
use Rattle.stack_code.specs.Steps.{Goes, stuck}
use Rattle.stack_code.specs.declared.memory.Word.TheVariants as word
use Rattle.mem_layout.specs.store_bytes.Place.{Place, place_of, inner_place}
use Rattle.mem_layout.specs.store_bytes.Spells.{Refers}
use Rattle.mem_layout.proofs.store_bytes.Writes.{inner_within}
use Rattle.shown_memory.specs.Shown.{Open, Layout, layouts, layout_at, in_layout, Located, located, kept_number, FramesShown, Shown, Small, path_word, word_at}
use Rattle.shown_memory.proofs.Geometry.{decoded_local, decoded_region}
use Rattle.shown_memory.proofs.Locals.{found, same_length, some_once}
use Rattle.shown_memory.proofs.Geometry as geometry

false_true : false ≡ true → ⊥
false_true e = cc

module _ (p : Program) (base : ℕ) where
  -- an address that comes back as it is kept
  pub record KeptAddress (a : Address) : Type 0 where
    pub decodes : reference_of (pos (kept_number p base a)) ≡ word.Address a
    pub keeps : kept (word.Address a) ≡ Goes (pos (kept_number p base a))
    pub fits : Fits elem.Ulint (pos (kept_number p base a))

  kept_region : (r o : ℕ) → r < 2147483647 → o < 4294967296 → KeptAddress (record { space = Regions; index = r; offset = o })
  kept_region r o h k =
      let lt : nat_lt (r * 4294967296 + o + 1) 9223372036854775808 ≡ true = lt-ltb (r * 4294967296 + o + 1) 9223372036854775808 (omega (arith, h, k)) in
      record { decodes = decoded_region r o h k; keeps = ap (λ b. if b then Goes (pos (r * 4294967296 + o + 1)) else stuck) lt; fits = (omega (arith, ints), omega (arith, ints, h, k)) }

  pub kept_local : (d o : ℕ) → d < 2147483647 → o < 4294967296 → KeptAddress (record { space = Locals; index = d; offset = o })
  kept_local d o h k = record { decodes = decoded_local d o k; keeps = ap Goes (wrapped-fits elem.Ulint (pos (9223372036854775808 + d * 4294967296 + o)) (omega (arith, ints), omega (arith, ints, h, k))); fits = (omega (arith, ints), omega (arith, ints, h, k)) }

  layout_below : (ls : List Layout) (d n : ℕ) (x : Place) → in_layout p base (layout_at ls d) n ≡ Some x → d < length ls
  layout_below [] d n x e = cc
  layout_below (y ∷ ys) d n x e = by (nat_eq d (length ys)) refl e (layout_below ys d n x)
    where
      by : (b : Bool) → nat_eq d (length ys) ≡ b → in_layout p base (if b then Some y else layout_at ys d) n ≡ Some x → (in_layout p base (layout_at ys d) n ≡ Some x → d < length ys) → d < suc (length ys)
      by true q e g = let r = eqb-true d (length ys) q in omega (arith, r)
      by false q e g = let r = g e in omega (arith, r)

  short_there : (ks : List Open) (fs : List Frame) (images : List (List ℕ)) (d : ℕ) (image : List ℕ) → FramesShown p base ks fs images → d < length ks → slice_get images (base + d) ≡ Some image → length image < 4294967296
  short_there [] fs images d image h l e = absurd (omega (arith, l))
  short_there (k ∷ ks) [] images d image h l e = absurd h
  short_there (k ∷ ks) (f ∷ fs) images d image h l e = by (nat_eq d (length ks)) refl (short_there ks fs images d image h.1)
    where
      by : (b : Bool) → nat_eq d (length ks) ≡ b → (d < length ks → slice_get images (base + d) ≡ Some image → length image < 4294967296) → length image < 4294967296
      by true q g =
          let is : d ≡ length ks = eqb-true d (length ks) q in
          let same : h.0.image ≡ image = some_once (sym h.0.there ∙ (ap (λ j. slice_get images (base + j)) (sym is) ∙ e)) in
          let long = h.0.long in
          let short = h.0.short in
          let there : length image ≡ k.long = ap length (sym same) ∙ long in
          omega (arith, there, short)
      by false q g = let other : d ≢ length ks = λ w. absurd (false_true (sym q ∙ eq-eqb d (length ks) w)) in g (omega (arith, l, other)) e

  -- the address of a place that is located
  pub kept_place : (is_there : ℕ → Bool) (now : ℕ) (ks : List Open) (spot : Spot) (l : Located) (s : State) (m : Memory) → Small p → Shown p base is_there now ks m s → base + length ks ≤ 2147483647 → located p base (layouts ks) spot ≡ Some l → KeptAddress l.address
  kept_place is_there now ks (in_store q) l s m small sh few e =
      let a = then_some (place_of (region_shape p) q) _ l e in
      let b = then_some (region_shape p q.region) _ a.0 a.1 in
      let is : record { address = record { space = Regions; index = q.region; offset = a.0.offset }; shape = a.0.shape } ≡ l = let c : Some _ ≡ Some l = a.2 in cc in
      let inside = inner_within q.steps b.0 a.0 b.2 in
      let whole = small.size_fits q.region b.0 b.1 in
      subst (λ (x : Located). KeptAddress x.address) is (kept_region q.region a.0.offset (small.few q.region b.0 b.1) (omega (arith, inside, whole)))
  kept_place is_there now ks (in_frame d n ss) l s m small sh few e =
      let a = then_some (in_layout p base (layout_at (layouts ks) d) n) _ l e in
      let b = then_some (inner_place a.0.shape ss) _ l a.2 in
      let is : record { address = record { space = Locals; index = base + d; offset = a.0.offset + b.0.offset }; shape = b.0.shape } ≡ l = let c : Some _ ≡ Some l = b.2 in cc in
      let f = found p base ks s.frames m.locals d n a.0 sh.frames a.1 in
      let inside = inner_within ss a.0.shape b.0 b.1 in
      let within = f.within in
      let below = layout_below (layouts ks) d n a.0 a.1 in
      let same = same_length ks in
      let short = short_there ks s.frames m.locals d f.image sh.frames (omega (arith, below, same)) f.in_images in
      subst (λ (x : Located). KeptAddress x.address) is (kept_local (base + d) (a.0.offset + b.0.offset) (omega (arith, below, same, few)) (omega (arith, inside, within, short)))

  -- where a path leads that is held, whatever its region
  pub held_there : (small : Small p) (q : Path) (class : ℕ) (name : List ℕ) (fs : Fields) → path_shape p q ≡ Some (Instance class name fs) → (l : Located) × (located p base [] (in_store q) ≡ Some l) × KeptAddress l.address × Refers (region_shape p) (Some q) (kept_number p base l.address)
  held_there small q class name fs e =
      let l = geometry.spot_located p base [] (in_store q) (Instance class name fs) e in
      let a = then_some (place_of (region_shape p) q) _ l.0 l.1 in
      let b = then_some (region_shape p q.region) _ a.0 a.1 in
      let here : Located = record { address = record { space = Regions; index = q.region; offset = a.0.offset }; shape = a.0.shape } in
      let is : here ≡ l.0 = some_once a.2 in
      let inside = inner_within q.steps b.0 a.0 b.2 in
      let whole = small.size_fits q.region b.0 b.1 in
      let shape_is : a.0.shape ≡ Instance class name fs = ap (λ (x : Located). x.shape) is ∙ l.2 in (
        l.0,
        l.1,
        subst (λ (x : Located). KeptAddress x.address) is (kept_region q.region a.0.offset (small.few q.region b.0 b.1) (omega (arith, inside, whole))),
        record { offset = a.0.offset; class = class; name = name; fields = fs; place = a.1 ∙ ap (λ sh. Some (record { offset = a.0.offset; shape = sh })) shape_is; word = ap (λ (x : Located). kept_number p base x.address) (sym is) },
      )

  -- what is kept of a path comes back, and is kept again
  pub refers_kept : (small : Small p) (o : Option Path) (w : ℕ) → Refers (region_shape p) o w → (reference_of (pos w) ≡ path_word p base o) × (kept (path_word p base o) ≡ Goes (pos w))
  refers_kept small None w h = (ap (λ n. reference_of (pos n)) h, ap (λ n. Goes (pos n)) (sym h))
  refers_kept small (Some q) w h =
      let a = then_some (region_shape p q.region) _ _ h.place in
      let inside = inner_within q.steps a.0 (record { offset = h.offset; shape = Instance h.class h.name h.fields }) a.2 in
      let whole = small.size_fits q.region a.0 a.1 in
      let k = kept_region q.region h.offset (small.few q.region a.0 a.1) (omega (arith, inside, whole)) in
      let put : Place → Option Located = λ y. Some (record { address = record { space = Regions; index = q.region; offset = y.offset }; shape = y.shape }) in
      let word : path_word p base (Some q) ≡ word.Address (record { space = Regions; index = q.region; offset = h.offset }) = ap (λ o. word_at p base (o >>? put)) h.place in
      (ap (λ n. reference_of (pos n)) h.word ∙ (k.decodes ∙ sym word), ap kept word ∙ (k.keeps ∙ ap (λ n. Goes (pos n)) (sym h.word)))
