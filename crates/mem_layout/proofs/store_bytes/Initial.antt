-- Initial values suit their shapes, and their images show the store of the beginning.
use Rattle.std.proofs.Common.{◌≡◌, ◌<◌, ℕ, zero, suc, pos, Bool, List, [], ◌∷◌, Option, Some, None, refl, ap, arith}
use Rattle.std.specs.Prelude.{slice_get}
use Rattle.std.proofs.lemmas.Int.{ints}
use Rattle.st_types.specs.declared.elem.Elem.TheVariants.{Ulint}
use Rattle.st_types.specs.Range.{Fits}
use Rattle.st_tree.specs.declared.program.Note.{Note}
use Rattle.st_tree.specs.Initial.{Initial, FieldInits}
use Rattle.st_rules.specs.Chains.{◌or_else◌}
use Rattle.st_values.specs.Program.{Region, Program}
use Rattle.st_values.specs.Value.{Value, element, member, ◌>>=◌}
use Rattle.st_values.specs.Shape.{Shape, Elementary, Enumeration, Reference, Interface, Array, Structure, Instance, Fields, no_fields, field_then, shape_of, region_shape}
use Rattle.st_values.specs.Initial.{number_given, list_given, fields_given, given_for, elements, init, inits, init_of, initial_regions, initial_store}
use Rattle.mem_layout.specs.store_bytes.Place.{size}
use Rattle.mem_layout.specs.store_bytes.Spells.{count, IsKept, Suits, EachSuits, Shows}
use Rattle.mem_layout.specs.store_bytes.Image.{image_of}
use Rattle.mem_layout.specs.store_bytes.SuitsLaws.{SuitsLaws}
use Rattle.mem_layout.specs.store_bytes.InitialLaws.{EachGiven, IsInRange, AreInRange, StartsInRange, AreInitial, InitialLaws}
use Rattle.mem_layout.proofs.store_bytes.Suits.{suits_laws, whole_range}

count-elements : (f : Option (Initial Note) → Value) (n : ℕ) (is : List (Initial Note)) → count (elements f n is) ≡ n
count-elements f zero is = refl
count-elements f (suc n) [] = ap suc (count-elements f n [])
count-elements f (suc n) (i ∷ is) = ap suc (count-elements f n is)

each_element : (f : Option (Initial Note) → Value) (P : Option (Initial Note) → Type 0) (Q : Value → Type 0) → ((i : Option (Initial Note)) → P i → Q (f i)) → P None
    → (n : ℕ) (is : List (Initial Note)) → EachGiven P is → (k : ℕ) → k < n → (w : Value) × (element (elements f n is) k ≡ Some w) × Q w
each_element f P Q g h zero is e k lt = absurd (omega arith)
each_element f P Q g h (suc n) [] e zero lt = (f None, refl, g None h)
each_element f P Q g h (suc n) [] e (suc k) lt = each_element f P Q g h n [] tt k (omega (arith, lt))
each_element f P Q g h (suc n) (i ∷ is) e zero lt = (f (Some i), refl, g (Some i) e.0)
each_element f P Q g h (suc n) (i ∷ is) e (suc k) lt = each_element f P Q g h n is e.1 k (omega (arith, lt))

zero_fits : Fits Ulint (pos 0)
zero_fits = (omega (arith, ints), omega (arith, ints))

module _ (regions : ℕ → Option Shape) where
  null_is_kept : IsKept regions None
  null_is_kept = record { word = 0; refers = refl; fits = zero_fits }

  mutual
    suits : (sh : Shape) (i : Option (Initial Note)) → IsInRange sh i → Suits regions sh (init sh i)
    suits (Elementary e) i h = (number_given i, refl, h)
    suits (Enumeration name values) i h = (number_given i, refl, h)
    suits (Reference c name) i h = (None, refl, null_is_kept)
    suits (Interface k name) i h = (None, refl, null_is_kept)
    suits (Array low n sh) i h = (
      elements (init sh) n (list_given i),
      refl,
      count-elements (init sh) n (list_given i),
      each_element (init sh) (IsInRange sh) (Suits regions sh) (λ j q. suits sh j q) h.0 n (list_given i) h.1,
    )
    suits (Structure name fs) i h = (inits fs (fields_given i), refl, each_suits fs (fields_given i) h)
    suits (Instance c name fs) i h = (inits fs (fields_given i), refl, h.0, each_suits fs (fields_given i) h.1)

    each_suits : (fs : Fields) (gs : FieldInits Note) → AreInRange fs gs → EachSuits regions fs (inits fs gs)
    each_suits no_fields gs h = refl
    each_suits (field_then v sh fs) gs h = (init sh (given_for v.name gs or_else v.initial), inits fs gs, refl, suits sh (given_for v.name gs or_else v.initial) h.0, each_suits fs gs h.1)

module _ (p : Program) where
  found : (xs : List Region) (r : ℕ) (sh : Shape) → (slice_get xs r >>= λ x. shape_of p x.variable.kind) ≡ Some sh
      → (x : Region) × (slice_get xs r ≡ Some x) × (shape_of p x.variable.kind ≡ Some sh) × (member (initial_regions p xs) r ≡ Some (init sh x.variable.initial))
  found [] r sh e = absurd cc
  found (x ∷ xs) zero sh e = (x, refl, e, ap (λ o. Some (init_of o x.variable.initial)) e)
  found (x ∷ xs) (suc r) sh e = found xs r sh e

  shows : (is_held : ℕ → Bool) (images : List (Option (List ℕ))) → StartsInRange p → AreInitial p is_held images → Shows (region_shape p) is_held images (initial_store p)
  shows is_held images g h = record {
    region = λ r sh held e.
        let f = found p.regions r sh e in
        let regions = region_shape p in
        let v = init sh f.0.variable.initial in
        let s = suits regions sh f.0.variable.initial (g.region r f.0 sh f.1 f.2) in
        let laws : SuitsLaws regions = suits_laws regions in
        let long = laws.long sh v s in
        record {
          image = image_of regions sh v;
          value = v;
          there = h.region r f.0 sh held f.1 f.2;
          stands = f.3;
          long = long;
          spells = laws.spelled sh v (image_of regions sh v) 0 s (whole_range (image_of regions sh v) (size sh) long);
        };
  }

  pub initial_laws : InitialLaws p
  initial_laws = record { suits = suits; shows = shows }
