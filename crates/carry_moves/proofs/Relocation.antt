-- Addresses that are moved are those of the paths after the change.
use Rattle.std.proofs.Common.{◌≡◌, ◌≤◌, ◌<◌, ℕ, zero, suc, ◌+◌, ◌-◌, ◌*◌, ◌/◌, ◌%◌, ℤ, pos, Bool, true, false, List, [], ◌∷◌, Option, Some, None, refl, sym, ap, ap₂, ◌∙◌, subst, arith}
use Rattle.std.specs.Prelude.{if◌then◌else◌, unsigned_abs}
use Rattle.std.proofs.lemmas.Int.{ints}
use Rattle.std.proofs.lemmas.Nat.{div-mul-add}
use Rattle.std.proofs.Math.Nat.{mod-eq-sub-div-mul}
use Rattle.st_types.specs.declared.elem.Elem.TheVariants.{Ulint}
use Rattle.st_types.specs.Range.{Fits}
use Rattle.st_types.specs.declared.st_type.StType.{StType}
use Rattle.st_values.specs.Program.{Program, conforms}
use Rattle.st_values.specs.Value.{Path, Step, ◌>>=◌}
use Rattle.st_values.specs.Shape.{Shape, Elementary, Enumeration, Reference, Interface, Array, Structure, Instance, Fields, shape_at, region_shape, path_shape}
use Rattle.st_values.proofs.ValueLaws.{then_some}
use Rattle.mem_layout.specs.store_bytes.Place.{size, Place, inner_place, place_of, kept}
use Rattle.mem_layout.specs.store_bytes.Spells.{Names, Refers}
use Rattle.mem_layout.proofs.store_bytes.Moves.{ending_above}
use Rattle.mem_layout.proofs.store_bytes.Writes.{inner_within}
use Rattle.mem_layout.proofs.store_bytes.Apart.{place_laws}
use Rattle.st_change.specs.From.{Way, ways_of, steps_of, new_ways, new_region, new_path}
use Rattle.st_change.specs.Carry.{shape_conforms, checked, relocated}
use Rattle.st_change.specs.Laws.{NamesDiffer}
use Rattle.carry_moves.specs.Addresses.{IsAddressOf, IsAim, Relocates}
use Rattle.carry_moves.specs.Found.{Found, instance_at, found, conforming, word_found, or_null, word_moved, address_moved, HasAddresses}
use Rattle.carry_moves.specs.AddressLaws.{AddressLaws}
use Rattle.carry_moves.proofs.Leading.{leads}
use Rattle.carry_moves.proofs.Finding.{new_steps, meant, found_is}

abbrev path_at : ℕ → List Step → Path
path_at r ts = record { region = r; steps = ts }

null_address : (p : Program) → IsAddressOf p None (pos 0)
null_address p = record { word = 0; is = refl; refers = refl; fits = (omega (arith, ints), omega (arith, ints)) }

module _ (old new : Program) (small : HasAddresses new) (t : StType) where
  -- what is known of the new path and the new word
  abbrev Ends : Option Path → Option ℕ → Type 0
  Ends p w = IsAddressOf new p (pos (or_null w))

  fits_kept : (r b : ℕ) → r < 4294967296 → b + 1 < 4294967296 → Fits Ulint (pos (kept r b))
  fits_kept r b h g = (omega (arith, ints), omega (arith, ints))

  new_path_steps : (r : ℕ) (osh z : Shape) (ss : List Step) → (ways_of osh ss >>= λ os. new_ways old new z os >>= λ ws. steps_of z ws >>= λ ts. Some (path_at r ts)) ≡ (new_steps old new osh z ss >>= λ ts. Some (path_at r ts))
  new_path_steps r osh z ss = by (ways_of osh ss)
    where
      next : (o : Option (List Way)) → (o >>= λ ws. steps_of z ws >>= λ ts. Some (path_at r ts)) ≡ ((o >>= λ ws. steps_of z ws) >>= λ ts. Some (path_at r ts))
      next None = refl
      next (Some ws) = refl

      by : (o : Option (List Way)) → (o >>= λ os. new_ways old new z os >>= λ ws. steps_of z ws >>= λ ts. Some (path_at r ts)) ≡ ((o >>= λ os. new_ways old new z os >>= λ ws. steps_of z ws) >>= λ ts. Some (path_at r ts))
      by None = refl
      by (Some os) = next (new_ways old new z os)

  -- of steps that lead into the new shape
  steps_end : (r : ℕ) (z : Shape) (ts : List Step) → region_shape new r ≡ Some z → Ends (checked new t (Some (path_at r ts))) ((inner_place z ts >>= λ x. instance_at x.shape x.offset) >>= conforming old new t r)
  steps_end r z ts e = by (inner_place z ts) (shape_at z ts) refl refl
    where
      shape_is : path_shape new (path_at r ts) ≡ shape_at z ts
      shape_is = ap (λ o. o >>= λ sh. shape_at sh ts) e

      ends : (o : Option Shape) → path_shape new (path_at r ts) ≡ o → (w : Option ℕ) → Ends (if shape_conforms new t o then Some (path_at r ts) else None) w → Ends (checked new t (Some (path_at r ts))) w
      ends o q w h = subst (λ s. Ends (if shape_conforms new t s then Some (path_at r ts) else None) w) (sym q) h

      instances : (x : Place) (d : ℕ) (m : List ℕ) (gs : Fields) (b : Bool) → inner_place z ts ≡ Some (record { offset = x.offset; shape = Instance d m gs }) → Ends (if b then Some (path_at r ts) else None) (if b then Some (kept r x.offset) else None)
      instances x d m gs false h = null_address new
      instances x d m gs true h =
          let room = small.by r z e in
          let within = inner_within ts z (record { offset = x.offset; shape = Instance d m gs }) h in
          let wide = ending_above gs 8 in
          record {
            word = kept r x.offset;
            is = refl;
            refers = record { offset = x.offset; class = d; name = m; fields = gs; place = ap (λ o. o >>= λ sh. inner_place sh ts) e ∙ h; word = refl };
            fits = fits_kept r x.offset room.1 (omega (arith, room.0));
          }

      at_place : (x : Place) (sh : Shape) → x.shape ≡ sh → inner_place z ts ≡ Some (record { offset = x.offset; shape = sh }) → Ends (if shape_conforms new t (Some sh) then Some (path_at r ts) else None) (instance_at sh x.offset >>= conforming old new t r)
      at_place x (Elementary e) q h = null_address new
      at_place x (Enumeration name values) q h = null_address new
      at_place x (Reference c name) q h = null_address new
      at_place x (Interface c name) q h = null_address new
      at_place x (Array l m y) q h = null_address new
      at_place x (Structure name fs) q h = null_address new
      at_place x (Instance d m gs) q h = instances x d m gs (conforms new d t) h

      by : (p : Option Place) (s : Option Shape) → inner_place z ts ≡ p → shape_at z ts ≡ s → Ends (checked new t (Some (path_at r ts))) ((p >>= λ x. instance_at x.shape x.offset) >>= conforming old new t r)
      by (Some x) s p q = ends (Some x.shape) (shape_is ∙ place_laws.leads z ts x p) (instance_at x.shape x.offset >>= conforming old new t r) (at_place x x.shape refl p)
      by None None p q = ends None (shape_is ∙ q) None (null_address new)
      by None (Some sh) p q = let h = place_laws.has z sh ts q in absurd (let k = h.1 in cc)

  region_ends : (q : Path) (osh : Shape) (offset : ℕ) (r : ℕ) → ((z : Shape) → found old new osh z offset ≡ meant old new z (new_steps old new osh z q.steps))
      → Ends (checked new t (region_shape new r >>= λ z. new_steps old new osh z q.steps >>= λ ts. Some (path_at r ts))) (region_shape new r >>= λ z. found old new osh z offset >>= conforming old new t r)
  region_ends q osh offset r f = by (region_shape new r) refl
    where
      steps : (z : Shape) (o : Option (List Step)) → region_shape new r ≡ Some z → Ends (checked new t (o >>= λ ts. Some (path_at r ts))) (meant old new z o >>= conforming old new t r)
      steps z None e = null_address new
      steps z (Some ts) e = steps_end r z ts e

      by : (o : Option Shape) → region_shape new r ≡ o → Ends (checked new t (o >>= λ z. new_steps old new osh z q.steps >>= λ ts. Some (path_at r ts))) (o >>= λ z. found old new osh z offset >>= conforming old new t r)
      by None e = null_address new
      by (Some z) e = subst (λ x. Ends (checked new t (new_steps old new osh z q.steps >>= λ ts. Some (path_at r ts))) (x >>= conforming old new t r)) (sym (f z)) (steps z (new_steps old new osh z q.steps) e)

  path_ends : (q : Path) (osh : Shape) (offset : ℕ) → region_shape old q.region ≡ Some osh → ((z : Shape) → found old new osh z offset ≡ meant old new z (new_steps old new osh z q.steps)) → Ends (checked new t (new_path old new q)) (word_found old new t q.region offset)
  path_ends q osh offset e f = by (new_region old new q.region)
    where
      by : (o : Option ℕ) → Ends (checked new t (o >>= λ r. region_shape old q.region >>= λ osh. region_shape new r >>= λ z. ways_of osh q.steps >>= λ os. new_ways old new z os >>= λ ws. steps_of z ws >>= λ ts. Some (path_at r ts)))
          (o >>= λ r. region_shape old q.region >>= λ osh. region_shape new r >>= λ z. found old new osh z offset >>= conforming old new t r)
      by None = null_address new
      by (Some r) =
          subst (λ s. Ends (checked new t (s >>= λ osh. region_shape new r >>= λ z. ways_of osh q.steps >>= λ os. new_ways old new z os >>= λ ws. steps_of z ws >>= λ ts. Some (path_at r ts))) (s >>= λ osh. region_shape new r >>= λ z. found old new osh z offset >>= conforming old new t r)) (sym e)
          (subst (λ p. Ends (checked new t p) (region_shape new r >>= λ z. found old new osh z offset >>= conforming old new t r)) (sym (shapes (region_shape new r))) (region_ends q osh offset r f))
        where
          shapes : (o : Option Shape) → (o >>= λ z. ways_of osh q.steps >>= λ os. new_ways old new z os >>= λ ws. steps_of z ws >>= λ ts. Some (path_at r ts)) ≡ (o >>= λ z. new_steps old new osh z q.steps >>= λ ts. Some (path_at r ts))
          shapes None = refl
          shapes (Some z) = new_path_steps r osh z q.steps

pub relocates : (old new : Program) (aim : StType → ℕ) (aimed : ℕ → StType) → NamesDiffer old → HasAddresses old → HasAddresses new → ((t : StType) → IsAim t → aimed (aim t) ≡ t) → Relocates old new aim (address_moved old new aimed)
relocates old new aim aimed differ few small back = record { by = by }
  where
    by : (t : StType) → IsAim t → (o : Option Path) (z : ℤ) → IsAddressOf old o z → IsAddressOf new (relocated old new t o) (address_moved old new aimed (aim t) z)
    by t g None z a =
        let is : z ≡ pos 0 = a.is ∙ ap pos a.refers in
        subst (λ y. IsAddressOf new None (address_moved old new aimed (aim t) y)) (sym is) (null_address new)
    by t g (Some q) z a =
        let n = a.refers in
        let x = then_some (region_shape old q.region) (λ sh. inner_place sh q.steps) _ n.place in
        let within = inner_within q.steps x.0 (record { offset = n.offset; shape = Instance n.class n.name n.fields }) x.2 in
        let wide = ending_above n.fields 8 in
        let room = few.by q.region x.0 x.1 in
        let low : n.offset < 4294967296 = omega (arith, room.0) in
        let m = q.region * 4294967296 + n.offset in
        let word_is : a.word ≡ suc m = n.word ∙ omega arith in
        let d : m / 4294967296 ≡ q.region = div-mul-add q.region 4294967296 n.offset low in
        let r : m % 4294967296 ≡ n.offset = mod-eq-sub-div-mul m 4294967296 ∙ ap (λ k. m - k * 4294967296) d ∙ omega arith in
        let moved : address_moved old new aimed (aim t) z ≡ pos (or_null (word_found old new t q.region n.offset)) =
        ap (address_moved old new aimed (aim t)) (a.is ∙ ap pos word_is) ∙ ap₂ (λ u v. pos (or_null (word_found old new (aimed (aim t)) u v))) d r ∙ ap (λ s. pos (or_null (word_found old new s q.region n.offset))) (back t g) in
        subst (IsAddressOf new (relocated old new t (Some q))) (sym moved)
        (path_ends old new small t q x.0 n.offset x.1 (λ z. found_is old new q.steps x.0 z n.offset n.class n.name n.fields (differ.shapes q.region x.0 x.1) x.2))

pub address_laws : AddressLaws
address_laws = record { leads = λ old new sh z offset. leads old new sh z offset; relocates = relocates }
