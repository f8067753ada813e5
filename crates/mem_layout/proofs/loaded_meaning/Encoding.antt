-- A value that is good has a spelling.
use Rattle.std.proofs.Common.{◌≡◌, ◌≤◌, ◌<◌, ℕ, zero, suc, ◌+◌, ◌*◌, ◌^◌, ℤ, pos, negsuc, List, [], ◌∷◌, length, Option, Some, None, refl, sym, ap, ◌∙◌, subst, arith}
use Rattle.std.specs.Prelude.{◌≤ℤ◌}
use Rattle.std.proofs.lemmas.Int.{ints}
use Rattle.st_types.specs.declared.st_type.StType.{StType}
use Rattle.st_types.specs.declared.st_type.StType.TheVariants as type
use Rattle.st_types.specs.declared.elem.Elem.TheVariants.{Udint, Ulint}
use Rattle.st_types.specs.Range.{Fits}
use Rattle.st_values.specs.Program.{Program}
use Rattle.st_values.specs.Value.{Path, Step, Value, number, reference, array, structure, instance, Values, no_values, value_then, Members, no_members, member_then, element, ◌>>=◌}
use Rattle.st_values.specs.Shape.{Shape, Elementary, Enumeration, Reference, Interface, Array, Structure, Instance, Fields, no_fields, field_then, shape_at, region_shape, path_shape}
use Rattle.st_values.proofs.ValueLaws.{then_some}
use Rattle.st_meaning.specs.st_frame.Good.{Names, Held, Fit, FitAll, FitEach}
use Rattle.mem_layout.specs.store_bytes.Place.{size, Place, inner_place, place_of, kept}
use Rattle.mem_layout.specs.store_bytes.Spells.{count, Refers, IsKept, Spells, Suits, EachSuits}
use Rattle.mem_layout.specs.store_bytes.Image.{image_of}
use Rattle.mem_layout.specs.store_bytes.PlaceLaws.{AreSmall}
use Rattle.mem_layout.proofs.store_bytes.Apart.{has_place, own_bytes}
use Rattle.mem_layout.proofs.store_bytes.Writes.{inner_within}
use Rattle.mem_layout.proofs.store_bytes.Suits.{suits_laws, whole_range}
use Rattle.mem_layout.specs.loaded_meaning.Sized.{IsCounted, AreCounted}
use Rattle.mem_layout.specs.loaded_meaning.Version.{FitAt}

ulint_fits : (w : ℕ) → w < 18446744073709551616 → Fits Ulint (pos w)
ulint_fits w h = (omega (arith, ints), omega (arith, ints))

udint_fits : (w : ℕ) → w < 4294967296 → Fits Udint (pos w)
udint_fits w h = (omega (arith, ints), omega (arith, ints))

module _ (p : Program) (small : AreSmall (region_shape p)) (few : (r : ℕ) (sh : Shape) → region_shape p r ≡ Some sh → r < 1024) where
  names_kept : (q : Path) (t : StType) → Names p q t → IsKept (region_shape p) (Some q)
  names_kept q t n =
      let a = then_some (region_shape p q.region) (λ sh. shape_at sh q.steps) (Instance n.class n.name n.fields) n.there in
      let b = has_place q.steps a.0 (Instance n.class n.name n.fields) a.2 in
      let place : Place = record { offset = b.0; shape = Instance n.class n.name n.fields } in
      let there : place_of (region_shape p) q ≡ Some place = ap (λ o. o >>= λ sh. inner_place sh q.steps) a.1 ∙ b.1 in
      let low : b.0 < 4294967296 = omega (arith, inner_within q.steps a.0 place b.1, small q.region a.0 a.1, own_bytes (Instance n.class n.name n.fields) tt) in
      let region : q.region < 1024 = few q.region a.0 a.1 in
      record {
        word = kept q.region b.0;
        refers = record { offset = b.0; class = n.class; name = n.name; fields = n.fields; place = there; word = refl };
        fits = ulint_fits (kept q.region b.0) (omega arith);
      }

  held_kept : (o : Option Path) (t : StType) → Held p t o → IsKept (region_shape p) o
  held_kept None t h = record { word = 0; refers = refl; fits = ulint_fits 0 (omega arith) }
  held_kept (Some q) t h = names_kept q t h

  mutual
    pub fit_suits : (sh : Shape) (v : Value) → IsCounted sh → Fit p sh v → Suits (region_shape p) sh v
    fit_suits (Elementary e) (number z) k h = (z, refl, h)
    fit_suits (Enumeration name values) (number z) k h = (z, refl, subst (Fits Udint) (sym h.1) (udint_fits h.0 (omega (arith, h.2, k))))
    fit_suits (Reference c name) (reference o) k h = (o, refl, held_kept o (type.Reference c) h)
    fit_suits (Interface i name) (reference o) k h = (o, refl, held_kept o (type.Interface i) h)
    fit_suits (Array low n sh) (array l vs) k h = (vs, ap (λ x. array x vs) (sym h.0), all_count n sh vs h.1, all_suit n sh vs k h.1)
    fit_suits (Structure name fs) (structure m ms) k h = (ms, ap (λ x. structure x ms) (sym h.0), each_suits fs ms k h.1)
    fit_suits (Instance c name fs) (instance m ms) k h = (ms, ap (λ x. instance x ms) (sym h.0), ulint_fits c (omega (arith, k.0)), each_suits fs ms k.1 h.1)
    fit_suits sh v k h = absurd h

    all_count : (n : ℕ) (sh : Shape) (vs : Values) → FitAll p n sh vs → count vs ≡ n
    all_count zero sh no_values h = refl
    all_count zero sh (value_then v vs) h = absurd h
    all_count (suc n) sh no_values h = absurd h
    all_count (suc n) sh (value_then v vs) h = ap suc (all_count n sh vs h.1)

    all_suit : (n : ℕ) (sh : Shape) (vs : Values) → IsCounted sh → FitAll p n sh vs → (k : ℕ) → k < n → (w : Value) × (element vs k ≡ Some w) × Suits (region_shape p) sh w
    all_suit zero sh no_values c h k lt = absurd (omega arith)
    all_suit zero sh (value_then v vs) c h k lt = absurd h
    all_suit (suc n) sh no_values c h k lt = absurd h
    all_suit (suc n) sh (value_then v vs) c h zero lt = (v, refl, fit_suits sh v c h.0)
    all_suit (suc n) sh (value_then v vs) c h (suc k) lt = all_suit n sh vs c h.1 k (omega arith)

    each_suits : (fs : Fields) (ms : Members) → AreCounted fs → FitEach p fs ms → EachSuits (region_shape p) fs ms
    each_suits no_fields no_members k h = refl
    each_suits no_fields (member_then n w ms) k h = absurd h
    each_suits (field_then x sh fs) no_members k h = absurd h
    each_suits (field_then x sh fs) (member_then n w ms) k h = (w, ms, ap (λ y. member_then y w ms) (sym h.0), fit_suits sh w k.0 h.1, each_suits fs ms k.1 h.2)

  -- a good value is spelled by its image
  pub image_spells : (sh : Shape) (v : Value) → IsCounted sh → Fit p sh v → Spells (region_shape p) sh v (image_of (region_shape p) sh v) 0
  image_spells sh v k h =
      let s = fit_suits sh v k h in
      (suits_laws (region_shape p)).spelled sh v (image_of (region_shape p) sh v) 0 s (whole_range (image_of (region_shape p) sh v) (size sh) ((suits_laws (region_shape p)).long sh v s))

  -- which is fit
  pub image_fits : (r : ℕ) (sh : Shape) (v : Value) → region_shape p r ≡ Some sh → IsCounted sh → Fit p sh v → FitAt p r (image_of (region_shape p) sh v)
  image_fits r sh v e k h =
      record {
        shape = sh;
        is = e;
        long = (suits_laws (region_shape p)).long sh v (fit_suits sh v k h);
        value = v;
        spells = image_spells sh v k h;
        fits = h;
      }
