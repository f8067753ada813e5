-- Where places lie.
use Rattle.std.proofs.Common.{◌≡◌, ◌<◌, ℕ, zero, suc, ◌+◌, ◌*◌, ◌-◌, ◌/◌, ◌%◌, ℤ, pos, negsuc, Bool, true, false, List, [], ◌∷◌, ◌++◌, length, Option, Some, None, refl, sym, ap, ◌∙◌, subst, arith}
use Rattle.std.specs.Prelude.{◌-ℤ◌, int_le, unsigned_abs, if◌then◌else◌, slice_get, nat_eq, nat_lt}
use Rattle.std.proofs.lemmas.Bool.{lt-ltb, le-ltb, ne_eqb}
use Rattle.st_types.specs.declared.elem.Elem.{Elem}
use Rattle.st_types.specs.declared.st_type.StType.{StType, out-StType}
use Rattle.st_types.specs.declared.st_type.StType.TheOpen.{StType-F}
use Rattle.st_types.specs.declared.st_type.StType.TheVariants as type
use Rattle.st_tree.specs.declared.path.Step.{Step}
use Rattle.st_tree.specs.declared.path.Step.TheVariants as step
use Rattle.st_values.specs.Program.{Variable, Program}
use Rattle.st_values.specs.Value.{◌>>=◌, natural}
use Rattle.st_values.specs.Shape.{Shape, Array, extent, Reference, Interface, Elementary, shape_of, shape_at, region_shape}
use Rattle.st_values.proofs.ValueLaws.{then_some}
use Rattle.st_meaning.specs.State.{Spot, in_store, in_frame, into}
use Rattle.st_meaning.specs.Call.{is_in_out}
use Rattle.st_meaning.specs.st_frame.Promise.Programs.{ProgramIs}
use Rattle.st_meaning.specs.st_frame.Promise.Types.{IsHeld}
use Rattle.st_meaning.proofs.st_frame.Spots.{scope_at, variable_shape, local_shape, spot_shape, Meets, exactly, below, as_plain, index_there}
use Rattle.st_meaning.proofs.st_frame.Unfolded.{opened}
use Rattle.stack_code.specs.Steps.{Goes, stuck}
use Rattle.stack_code.specs.Memory.{moved, address_of, reference_of, number_kept}
use Rattle.stack_code.specs.declared.memory.Space.TheVariants.{Regions, Locals}
use Rattle.stack_code.specs.declared.memory.Address.{Address}
use Rattle.stack_code.specs.declared.memory.Word.{Word}
use Rattle.stack_code.specs.declared.memory.Word.TheVariants as word
use Rattle.mem_layout.proofs.store_bytes.Writes.{part_within}
use Rattle.mem_layout.specs.store_bytes.Place.{size, Place, element_place, part_place, inner_place, place_of, kept}
use Rattle.mem_layout.specs.store_bytes.StoreLaws.{IsNumber, IsAddress}
use Rattle.mem_layout.proofs.store_bytes.Apart.{has_place}
use Rattle.code_rules.specs.Places.{width, bytes_of}
use Rattle.shown_memory.proofs.Levels.{IsWithin, one_more}
use Rattle.shown_memory.proofs.Parts.{sized, located_known}
use Rattle.shown_memory.specs.Shown.{Open, scopes, Layout, layouts, layout_at, local_place, in_layout, Located, located}

-- one step further adds what the step adds
pub inner_snoc : (ss : List Step) (s : Step) (sh : Shape) (y x : Place) → inner_place sh ss ≡ Some y → part_place y.shape s ≡ Some x → inner_place sh (ss ++ s ∷ []) ≡ Some (record { offset = y.offset + x.offset; shape = x.shape })
inner_snoc [] s sh y x e f =
    let is : record { offset = 0; shape = sh } ≡ y = cc in
    let q : part_place sh s ≡ Some x = subst (λ (z : Place). part_place z.shape s ≡ Some x) (sym is) f in
    let n : x.offset + 0 ≡ y.offset + x.offset = subst (λ (z : Place). x.offset + 0 ≡ z.offset + x.offset) is (omega arith) in
    ap (λ o. o >>= λ x. Some (record { offset = x.offset + 0; shape = x.shape })) q ∙ ap (λ n. Some (record { offset = n; shape = x.shape })) n
inner_snoc (t ∷ ts) s sh y x e f =
    let a = then_some (part_place sh t) _ y e in
    let b = then_some (inner_place a.0.shape ts) _ y a.2 in
    let is : record { offset = a.0.offset + b.0.offset; shape = b.0.shape } ≡ y = let c : Some _ ≡ Some y = b.2 in cc in
    let q : part_place b.0.shape s ≡ Some x = subst (λ (z : Place). part_place z.shape s ≡ Some x) (sym is) f in
    let r = inner_snoc ts s a.0.shape b.0 x b.1 q in
    let n : a.0.offset + (b.0.offset + x.offset) ≡ y.offset + x.offset = subst (λ (z : Place). a.0.offset + (b.0.offset + x.offset) ≡ z.offset + x.offset) is (omega arith) in
    ap (λ o. o >>= λ (u : Place). inner_place u.shape (ts ++ s ∷ []) >>= λ (v : Place). Some (record { offset = u.offset + v.offset; shape = v.shape })) a.1
    ∙ (ap (λ o. o >>= λ (v : Place). Some (record { offset = a.0.offset + v.offset; shape = v.shape })) r ∙ ap (λ n. Some (record { offset = n; shape = x.shape })) n)

-- what is kept of an address in a region is that address
pub decoded_region : (r o : ℕ) → r < 2147483647 → o < 4294967296 → reference_of (pos (kept r o)) ≡ word.Address (record { space = Regions; index = r; offset = o })
decoded_region r o h k =
    let n = kept r o in
    let some : nat_eq n 0 ≡ false = ne_eqb n 0 (λ e. absurd (omega (arith, e))) in
    let lt : nat_lt n 9223372036854775808 ≡ true = lt-ltb n 9223372036854775808 (omega (arith, h, k)) in
    let d : (n - 1) / 4294967296 ≡ r = omega (arith, k) in
    let m : (n - 1) % 4294967296 ≡ o = omega (arith, k) in
    let f : ℕ → ℕ → Word = λ x y. word.Address (record { space = Regions; index = x; offset = y }) in
    ap (λ b. if b then word.Null else word.Address (address_of n)) some
    ∙ (ap (λ b. word.Address (if b then record { space = Regions; index = (n - 1) / 4294967296; offset = (n - 1) % 4294967296 } else record { space = Locals; index = (n - 9223372036854775808) / 4294967296; offset = (n - 9223372036854775808) % 4294967296 })) lt
    ∙ (ap (λ x. f x ((n - 1) % 4294967296)) d ∙ ap (f r) m))

-- and of one in the locals of a call
pub decoded_local : (d o : ℕ) → o < 4294967296 → reference_of (pos (number_kept Locals d o)) ≡ word.Address (record { space = Locals; index = d; offset = o })
decoded_local d o k =
    let n = 9223372036854775808 + d * 4294967296 + o in
    let some : nat_eq n 0 ≡ false = ne_eqb n 0 (λ e. absurd (omega (arith, e))) in
    let ge : nat_lt n 9223372036854775808 ≡ false = le-ltb n 9223372036854775808 (omega arith) in
    let q : (n - 9223372036854775808) / 4294967296 ≡ d = omega (arith, k) in
    let m : (n - 9223372036854775808) % 4294967296 ≡ o = omega (arith, k) in
    let f : ℕ → ℕ → Word = λ x y. word.Address (record { space = Locals; index = x; offset = y }) in
    ap (λ b. if b then word.Null else word.Address (address_of n)) some
    ∙ (ap (λ b. word.Address (if b then record { space = Regions; index = (n - 1) / 4294967296; offset = (n - 1) % 4294967296 } else record { space = Locals; index = (n - 9223372036854775808) / 4294967296; offset = (n - 9223372036854775808) % 4294967296 })) ge
    ∙ (ap (λ x. f x ((n - 9223372036854775808) % 4294967296)) q ∙ ap (f d) m))

module _ (p : Program) (base : ℕ) where
  pub located_into : (ls : List Layout) (spot : Spot) (t : Step) (l : Located) (x : Place) → located p base ls spot ≡ Some l → part_place l.shape t ≡ Some x → located p base ls (into spot t) ≡ Some (record { address = record l.address { offset = l.address.offset + x.offset }; shape = x.shape })
  located_into ls (in_store q) t l x e f =
      let a = then_some (place_of (region_shape p) q) _ l e in
      let b = then_some (region_shape p q.region) _ a.0 a.1 in
      let is : record { address = record { space = Regions; index = q.region; offset = a.0.offset }; shape = a.0.shape } ≡ l = let c : Some _ ≡ Some l = a.2 in cc in
      let g = inner_snoc q.steps t b.0 a.0 x b.2 (subst (λ (z : Located). part_place z.shape t ≡ Some x) (sym is) f) in
      let put : Place → Option Located = λ y. Some (record { address = record { space = Regions; index = q.region; offset = y.offset }; shape = y.shape }) in
      ap (λ o. (o >>= λ sh. inner_place sh (q.steps ++ t ∷ [])) >>= put) b.1 ∙ (ap (λ o. o >>= put) g
      ∙ ap (λ (z : Located). Some (record { address = record z.address { offset = z.address.offset + x.offset }; shape = x.shape })) is)
  located_into ls (in_frame d n ss) t l x e f =
      let a = then_some (in_layout p base (layout_at ls d) n) _ l e in
      let b = then_some (inner_place a.0.shape ss) _ l a.2 in
      let is : record { address = record { space = Locals; index = base + d; offset = a.0.offset + b.0.offset }; shape = b.0.shape } ≡ l = let c : Some _ ≡ Some l = b.2 in cc in
      let g = inner_snoc ss t a.0.shape b.0 x b.1 (subst (λ (z : Located). part_place z.shape t ≡ Some x) (sym is) f) in
      let put : Place → Place → Option Located = λ u y. Some (record { address = record { space = Locals; index = base + d; offset = u.offset + y.offset }; shape = y.shape }) in
      let n' : a.0.offset + (b.0.offset + x.offset) ≡ a.0.offset + b.0.offset + x.offset = omega arith in
      ap (λ o. o >>= λ (u : Place). inner_place u.shape (ss ++ t ∷ []) >>= put u) a.1 ∙ (ap (λ o. o >>= put a.0) g
      ∙ (ap (λ n. Some (record { address = record { space = Locals; index = base + d; offset = n }; shape = x.shape })) n'
      ∙ ap (λ (z : Located). Some (record { address = record z.address { offset = z.address.offset + x.offset }; shape = x.shape })) is))

  -- a local that has a shape has a place
  pub place_there : (vs : List Variable) (i n : ℕ) (sh : Shape) → variable_shape p (slice_get vs n) ≡ Some sh → (x : Place) × (local_place p base i vs n ≡ Some x) × (x.shape ≡ sh)
  place_there [] i n sh e = cc
  place_there (v ∷ vs) i (suc n) sh e = place_there vs (i + width p v) n sh e
  place_there (v ∷ vs) i zero sh e = by (is_in_out v.sort) e
    where
      by : (b : Bool) → (if b then None else shape_of p v.kind) ≡ Some sh → (x : Place) × ((if b then None else (shape_of p v.kind >>= λ sh. Some (record { offset = i; shape = sh }))) ≡ Some x) × (x.shape ≡ sh)
      by true e = cc
      by false e = (record { offset = i; shape = sh }, ap (λ o. o >>= λ sh. Some (record { offset = i; shape = sh })) e, refl)

  as_long : (ks : List Open) → length (scopes ks) ≡ length (layouts ks)
  as_long [] = refl
  as_long (k ∷ ks) = ap suc (as_long ks)

  layout_there : (ks : List Open) (d n : ℕ) (sh : Shape) → local_shape p (scope_at (scopes ks) d) n ≡ Some sh → (x : Place) × (in_layout p base (layout_at (layouts ks) d) n ≡ Some x) × (x.shape ≡ sh)
  layout_there [] d n sh e = cc
  layout_there (k ∷ ks) d n sh e = by (nat_eq d (length (scopes ks))) (nat_eq d (length (layouts ks))) (ap (nat_eq d) (as_long ks)) e (layout_there ks d n sh)
    where
      by : (b c : Bool) → b ≡ c → local_shape p (if b then Some k.scope else scope_at (scopes ks) d) n ≡ Some sh → (local_shape p (scope_at (scopes ks) d) n ≡ Some sh → (x : Place) × (in_layout p base (layout_at (layouts ks) d) n ≡ Some x) × (x.shape ≡ sh))
          → (x : Place) × (in_layout p base (if c then Some (record { start = k.start; locals = k.scope.locals }) else layout_at (layouts ks) d) n ≡ Some x) × (x.shape ≡ sh)
      by true true q e g = place_there k.scope.locals k.start n sh e
      by false false q e g = g e
      by true false q e g = cc
      by false true q e g = cc

  -- what has a shape lies somewhere
  pub spot_located : (ks : List Open) (spot : Spot) (sh : Shape) → spot_shape p (scopes ks) spot ≡ Some sh → (l : Located) × (located p base (layouts ks) spot ≡ Some l) × (l.shape ≡ sh)
  spot_located ks (in_store q) sh e =
      let a = then_some (region_shape p q.region) _ sh e in
      let b = has_place q.steps a.0 sh a.2 in
      let put : Place → Option Located = λ y. Some (record { address = record { space = Regions; index = q.region; offset = y.offset }; shape = y.shape }) in
      (record { address = record { space = Regions; index = q.region; offset = b.0 }; shape = sh }, ap (λ o. (o >>= λ sh. inner_place sh q.steps) >>= put) a.1 ∙ ap (λ o. o >>= put) b.1, refl)
  spot_located ks (in_frame d n ss) sh e =
      let a = then_some (local_shape p (scope_at (scopes ks) d) n) _ sh e in
      let x = layout_there ks d n a.0 a.1 in
      let b = has_place ss x.0.shape sh (ap (λ y. shape_at y ss) x.2 ∙ a.2) in
      let put : Place → Place → Option Located = λ u y. Some (record { address = record { space = Locals; index = base + d; offset = u.offset + y.offset }; shape = y.shape }) in
      (record { address = record { space = Locals; index = base + d; offset = x.0.offset + b.0 }; shape = sh }, ap (λ o. o >>= λ (u : Place). inner_place u.shape ss >>= put u) x.1 ∙ ap (λ o. o >>= put x.0) b.1, refl)

module _ (p : Program) (fine : ProgramIs p) where
  pub some_shape : (a b : Shape) → Some a ≡ Some b → a ≡ b
  some_shape a b e = cc

  pub number_shape : (sh : Shape) (t : StType) (e : Elem) → t ≡ type.Elementary e → Meets p (Some sh) t → IsNumber sh e
  number_shape sh t e q m =
      let a = as_plain p fine (Some sh) (type.Elementary e) tt (subst (Meets p (Some sh)) q m) in
      let o = opened p (type.Elementary e) (StType-F.Elementary e) a.0 (type.outs-Elementary e) a.1 in
      subst (λ x. IsNumber x e) (sym (some_shape sh a.0 a.2 ∙ o)) refl

  pub held_shape : (sh : Shape) (t : StType) → IsHeld t → Meets p (Some sh) t → IsAddress sh
  held_shape sh (type.Reference c) i m =
      let a = as_plain p fine (Some sh) (type.Reference c) tt m in
      let o = opened p (type.Reference c) (StType-F.Reference c) a.0 (type.outs-Reference c) a.1 in
      subst IsAddress (sym (some_shape sh a.0 a.2 ∙ o.1)) tt
  held_shape sh (type.Interface c) i m =
      let a = as_plain p fine (Some sh) (type.Interface c) tt m in
      let o = opened p (type.Interface c) (StType-F.Interface c) a.0 (type.outs-Interface c) a.1 in
      subst IsAddress (sym (some_shape sh a.0 a.2 ∙ o.1)) tt
  held_shape sh t i m = absurd i

  natural_is : (z : ℤ) (k : ℕ) → natural z ≡ Some k → unsigned_abs z ≡ k
  natural_is (pos n) k e = cc
  natural_is (negsuc n) k e = cc

  pub moved_by : (a : Address) (n : ℕ) → a.offset + n < 4294967296 → moved a n ≡ Goes (record a { offset = a.offset + n })
  moved_by a n h = ap (λ b. if b then Goes (record a { offset = a.offset + n }) else stuck) (lt-ltb (a.offset + n) 4294967296 h)

  abbrev pub element_in : Shape → Shape
  element_in (Array low n sh) = sh
  element_in sh = sh

  pub element_there : (base : ℕ) (ls : List Layout) (spot : Spot) (t : StType) (low high : ℤ) (w : StType) (i : ℤ) (l : Located) → out-StType t ≡ StType-F.Array low high w → located p base ls spot ≡ Some l → Meets p (Some l.shape) t → int_le low i ≡ true → int_le i high ≡ true
      → l.address.offset + size l.shape < 4294967296
      → (moved l.address (unsigned_abs (i -ℤ low) * bytes_of p w) ≡ Goes (record l.address { offset = l.address.offset + unsigned_abs (i -ℤ low) * bytes_of p w }))
      × (located p base ls (into spot (step.Element i)) ≡ Some (record { address = record l.address { offset = l.address.offset + unsigned_abs (i -ℤ low) * bytes_of p w }; shape = element_in l.shape }))
  element_there base ls spot t low high w i l q at (below c d name fs e f m) a b room =
      let x : StType-F.Array low high w ≡ StType-F.Instance c = sym q ∙ ap out-StType e ∙ type.outs-Instance c in
      cc
  element_there base ls spot t low high w i l q at (exactly sh u e) a b room =
      let o = opened p t (StType-F.Array low high w) sh q u in
      let k = index_there low high i a b in
      let whole : l.shape ≡ Array low (extent low high) o.0 = some_shape l.shape sh e ∙ o.1 in
      let part : part_place l.shape (step.Element i) ≡ Some (record { offset = k.0 * size o.0; shape = o.0 }) =
      ap (λ z. part_place z (step.Element i)) whole ∙ (ap (element_place (extent low high) o.0) k.1 ∙ ap (λ y. if y then Some (record { offset = k.0 * size o.0; shape = o.0 }) else None) k.2) in
      let far : unsigned_abs (i -ℤ low) * bytes_of p w ≡ k.0 * size o.0 = ap (λ n. n * bytes_of p w) (natural_is (i -ℤ low) k.0 k.1) ∙ ap (λ n. k.0 * n) (sized p w o.0 o.2 (one_more o.0 64 (subst (λ z. IsWithin z 65) whole (located_known p base ls spot l at).within))) in
      let inside = part_within l.shape (step.Element i) (record { offset = k.0 * size o.0; shape = o.0 }) part in
      let next = located_into p base ls spot (step.Element i) l (record { offset = k.0 * size o.0; shape = o.0 }) at part in (
        moved_by l.address (unsigned_abs (i -ℤ low) * bytes_of p w) (omega (arith, far, inside, room)),
        next ∙ (ap (λ n. Some (record { address = record l.address { offset = l.address.offset + n }; shape = o.0 })) (sym far) ∙ ap (λ z. Some (record { address = record l.address { offset = l.address.offset + unsigned_abs (i -ℤ low) * bytes_of p w }; shape = element_in z })) (sym whole)),
      )
