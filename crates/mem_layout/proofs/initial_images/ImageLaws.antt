-- Regions that are filled one after the other.
use Rattle.std.proofs.Common.{◌≡◌, ◌≢◌, ◌≤◌, ◌<◌, ℕ, zero, suc, ◌+◌, true, List, [], ◌∷◌, length, map, get_or, replicate, Option, Some, None, refl, sym, ap, ◌∙◌, subst, arith, inl, inr, ⊎_elim}
use Rattle.std.specs.Prelude.{◌⊎◌, slice_get, slice_set, slice_range, option_map}
use Rattle.std.proofs.lemmas.Bool.{cases_lt}
use Rattle.std.proofs.lemmas.List.{length-replicate}
use Rattle.std.proofs.lemmas.Option.{slice_get-get_or, slice_get-map, slice_get_within, get_or_from_slice_get}
use Rattle.st_tree.specs.declared.program.RegionDecl.{RegionDecl}
use Rattle.st_tree.specs.declared.program.Program.{Program as CheckedProgram}
use Rattle.st_values.specs.Program.{Program, Region}
use Rattle.st_values.specs.Initial.{init}
use Rattle.st_values.specs.Shape.{Shape, shape_of, region_shape}
use Rattle.st_values.specs.View.{initial_in, region_of, program_of}
use Rattle.mem_layout.specs.store_bytes.Place.{size}
use Rattle.mem_layout.specs.store_bytes.Image.{image_of}
use Rattle.mem_layout.specs.store_bytes.InitialLaws.{StartsInRange, AreInitial}
use Rattle.mem_layout.proofs.store_bytes.Image.{spelling_laws}
use Rattle.mem_layout.proofs.store_bytes.Suits.{whole_range}
use Rattle.mem_layout.proofs.store_bytes.Store.{get_set_same, get_set_other}
use Rattle.mem_layout.specs.Layout.{HasShape, RegionsHaveShapes}
use Rattle.mem_layout.proofs.LayoutLaws.{decl_shape}
use Rattle.mem_layout.specs.initial_images.Private.Fill.{CanFill, Filled}
use Rattle.mem_layout.specs.initial_images.Private.Images.{CanBegin, Begun, AreBegun}

-- ---- one region

-- an image of zeros has room for what a region begins with
zeros_can : (p : Program) (d : RegionDecl) (n : ℕ) (im : List ℕ) (q : CanBegin p d) → n ≡ size q.has.shape → n < 4294967296 → im ≡ replicate n 0 → CanFill p 65 d.kind (initial_in d.initial) 0 im
zeros_can p d n im q e lt is =
    let long : length im ≡ n = ap length is ∙ length-replicate {A = ℕ} n 0 in
    let blank : slice_range im 0 (0 + n) ≡ replicate n 0 = whole_range im n long ∙ is in
    record {
      shape = q.has.shape;
      unfolds = q.has.unfolds;
      deep = omega arith;
      small = q.has.small;
      range = q.range;
      room = record { within = omega (arith, e, long); blank = subst (λ m. slice_range im 0 (0 + m) ≡ replicate m 0) e blank };
      few = omega (arith, long, lt);
    }

region_is : (p : Program) (d : RegionDecl) (n : ℕ) (im im' : List ℕ) (q : CanBegin p d) → n ≡ size q.has.shape → im ≡ replicate n 0 → Filled p 65 d.kind (initial_in d.initial) 0 im im' → (s : Shape) → shape_of p d.kind ≡ Some s → im' ≡ image_of (region_shape p) s (init s (initial_in d.initial))
region_is p d n im im' q e is f s u =
    let sh = q.has.shape in
    let g = f.by sh q.has.unfolds in
    let long : length im' ≡ size sh = g.long ∙ (ap length is ∙ (length-replicate {A = ℕ} n 0 ∙ e)) in
    let whole : im' ≡ image_of (region_shape p) sh (init sh (initial_in d.initial)) = sym (whole_range im' (size sh) long) ∙ (spelling_laws (region_shape p)).bytes sh (init sh (initial_in d.initial)) im' 0 g.spells in
    let x : Some sh ≡ Some s = sym q.has.unfolds ∙ u in
    let same : sh ≡ s = cc in
    subst (λ z. im' ≡ image_of (region_shape p) z (init z (initial_in d.initial))) same whole

pub region_begun : (p : Program) (d : RegionDecl) (n : ℕ) (im im' : List ℕ) → n < 4294967296 → ((h : HasShape p d.kind) → n ≡ size h.shape) → im ≡ replicate n 0 → (CanFill p 65 d.kind (initial_in d.initial) 0 im → Filled p 65 d.kind (initial_in d.initial) 0 im im') → Begun p d im'
region_begun p d n im im' lt e is f = record { by = λ q. region_is p d n im im' q (e q.has) is (f (zeros_can p d n im q (e q.has) lt is)) }

-- ---- all regions

region_can : (c : CheckedProgram) (r : ℕ) (d : RegionDecl) → RegionsHaveShapes (program_of c) → StartsInRange (program_of c) → slice_get c.regions r ≡ Some d → CanBegin (program_of c) d
region_can c r d h s there =
    let lt = slice_get_within c.regions r d there in
    let has = decl_shape (program_of c) c.regions r d h lt (sym (get_or_from_slice_get c.regions r d d there)) in
    let there' : slice_get (program_of c).regions r ≡ Some (region_of d) = slice_get-map region_of c.regions r ∙ ap (option_map region_of) there in
    record { has = has; range = s.region r (region_of d) has.shape there' has.unfolds }

none_there : {A : Type 0} → (n r : ℕ) (x : A) → r < n → slice_get (replicate n x) r ≡ Some x
none_there zero r x h = absurd (omega (arith, h))
none_there (suc n) zero x h = refl
none_there (suc n) (suc r) x h = none_there n r x (omega (arith, h))

long_set : {A : Type 0} → (xs : List A) (k : ℕ) (x : A) → length (slice_set xs k x) ≡ length xs
long_set [] k x = refl
long_set (a ∷ xs) zero x = refl
long_set (a ∷ xs) (suc k) x = ap suc (long_set xs k x)

pub none_begun : (p : Program) (ds : List RegionDecl) (images : List (Option (List ℕ))) (n : ℕ) → n ≡ length ds → images ≡ replicate n None → AreBegun p ds 0 images
none_begun p ds images n e is = record {
  long = ap length is ∙ (length-replicate {A = Option (List ℕ)} n None ∙ e);
  done = λ r d lt g. absurd (omega (arith, lt));
  left = λ r h lt. ap (λ xs. slice_get xs r) is ∙ none_there n r None (omega (arith, lt, e));
}

pub next_begun : (p : Program) (ds : List RegionDecl) (k : ℕ) (images images' : List (Option (List ℕ))) (d : RegionDecl) (image : List ℕ) → AreBegun p ds k images → k < length ds → d ≡ get_or ds k d → Begun p d image → images' ≡ slice_set images k (Some image) → AreBegun p ds (k + 1) images'
next_begun p ds k images images' d image b lt e g is = record {
  long = ap length is ∙ (long_set images k (Some image) ∙ b.long);
  done = λ r x h there. ⊎_elim (λ (l : r < k). earlier r x l there) (λ (l : r ≡ k). here r x l there) (split r h);
  left = λ r h l. let ne : r ≢ k = λ q. omega (arith, h, q) in ap (λ xs. slice_get xs r) is ∙ (get_set_other images k r (Some image) ne ∙ b.left r (omega (arith, h)) l);
}
  where
    split : (r : ℕ) → r < k + 1 → (r < k) ⊎ (r ≡ k)
    split r h = ⊎_elim (λ (l : r < k). inl l) (λ (l : k ≤ r). let q : r ≡ k = omega (arith, h, l) in inr q) (cases_lt r k)

    earlier : (r : ℕ) (x : RegionDecl) → r < k → slice_get ds r ≡ Some x → (im : List ℕ) × (slice_get images' r ≡ Some (Some im)) × Begun p x im
    earlier r x l there =
        let y = b.done r x l there in
        let ne : r ≢ k = λ q. omega (arith, l, q) in
        (y.0, ap (λ xs. slice_get xs r) is ∙ (get_set_other images k r (Some image) ne ∙ y.1), y.2)

    here : (r : ℕ) (x : RegionDecl) → r ≡ k → slice_get ds r ≡ Some x → (im : List ℕ) × (slice_get images' r ≡ Some (Some im)) × Begun p x im
    here r x l there =
        let own : slice_get ds k ≡ Some d = slice_get-get_or ds k d lt ∙ ap Some (sym e) in
        let same : Some d ≡ Some x = sym own ∙ (ap (slice_get ds) (sym l) ∙ there) in
        let is_d : d ≡ x = cc in
        let was : slice_get images k ≡ Some None = b.left k (omega arith) lt in
        (image, ap (slice_get images') l ∙ (ap (λ xs. slice_get xs k) is ∙ get_set_same images k (Some image) None was), subst (λ y. Begun p y image) is_d g)

found_at : {A B : Type 0} (f : A → B) (xs : List A) (r : ℕ) (y : B) → slice_get (map f xs) r ≡ Some y → (x : A) × (slice_get xs r ≡ Some x) × (f x ≡ y)
found_at f [] r y e = cc
found_at f (x ∷ xs) zero y e = (x, refl, cc)
found_at f (x ∷ xs) (suc r) y e = found_at f xs r y e

pub all_begun : (c : CheckedProgram) (k : ℕ) (images : List (Option (List ℕ))) → AreBegun (program_of c) c.regions k images → length c.regions ≤ k → RegionsHaveShapes (program_of c) → StartsInRange (program_of c) → AreInitial (program_of c) (λ r. true) images
all_begun c k images b h has starts = record {
  region = λ r x sh held there u.
      let f = found_at region_of c.regions r x there in
      let lt = slice_get_within c.regions r f.0 f.1 in
      let y = b.done r f.0 (omega (arith, lt, h)) f.1 in
      let can = region_can c r f.0 has starts f.1 in
      let is : y.0 ≡ image_of (region_shape (program_of c)) sh (init sh (initial_in f.0.initial)) = y.2.by can sh (ap (λ (z : Region). shape_of (program_of c) z.variable.kind) f.2 ∙ u) in
      let own : y.0 ≡ image_of (region_shape (program_of c)) sh (init sh x.variable.initial) = is ∙ ap (λ (z : Region). image_of (region_shape (program_of c)) sh (init sh z.variable.initial)) f.2 in
      y.1 ∙ ap (λ z. Some (Some z)) own;
}
