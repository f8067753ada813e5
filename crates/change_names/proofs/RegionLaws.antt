-- Regions before and after a change.
use Rattle.std.proofs.Common.{◌≡◌, ℕ, zero, suc, List, [], ◌∷◌, map, Option, Some, None, refl, sym, ap, ◌∙◌}
use Rattle.std.specs.Prelude.{option_map, option_and_then, slice_get}
use Rattle.st_rules.specs.Named.{first_place}
use Rattle.st_values.specs.Program.{Region, Program}
use Rattle.st_values.specs.Value.{◌>>=◌}
use Rattle.st_change.specs.From.{Pairs, old_name, new_name, region_from, region_pairs_by, region_pairs, names_of_regions}
use Rattle.change_names.specs.declared.change_pairs.regions.Placed.{Placed}
use Rattle.change_names.specs.change_pairs.Places.{Table, found_in}
use Rattle.change_names.specs.change_pairs.Regions.{regions_of}
use Rattle.change_names.specs.declared.regions.RegionNumbers.{RegionNumbers}
use Rattle.change_names.specs.Regions.{number_at, AreNumbers}
use Rattle.change_names.specs.Private.Places.{ArePlacesOf}

pub names_by : (xs : List Placed) → map (λ x. x.variable.name.now) xs ≡ names_of_regions (regions_of xs)
names_by [] = refl
names_by (x ∷ xs) = ap (λ ns. x.variable.name.now ∷ ns) (names_by xs)

-- the pairs of two lists of regions are those of their programs
pub pairs_are : (old new : Program) (xs ys : List Region) → xs ≡ new.regions → ys ≡ old.regions → region_pairs_by (region_from xs ys) xs ≡ region_pairs old new
unfolding region_pairs
pairs_are old new xs ys e f = ap (λ zs. region_pairs_by (region_from zs ys) zs) e ∙ ap (λ zs. region_pairs_by (region_from new.regions zs) new.regions) f

in_turn : {A B C : Type 0} (o : Option A) (f : A → Option B) (g : B → Option C) → (o >>= f >>= g) ≡ (o >>= λ a. f a >>= g)
in_turn None f g = refl
in_turn (Some a) f g = refl

module _ (turn : List ℕ → Option (List ℕ)) (table : Table) (names : List (List ℕ)) (are : ArePlacesOf table names) where
  abbrev placed_by : Option Region → Option ℕ
  placed_by o = option_map (λ x. x.variable.name) o >>= turn >>= λ n. first_place n names

  one_number : (o : Option (List ℕ)) → option_and_then (found_in table) o ≡ (o >>= λ n. first_place n names)
  one_number None = refl
  one_number (Some n) = are.by n

  -- a list of numbers at a place
  pub numbers_by : (xs : List Region) (r : ℕ) → number_at (map (λ x. option_and_then (found_in table) (turn x.variable.name)) xs) r ≡ placed_by (slice_get xs r)
  numbers_by [] r = refl
  numbers_by (x ∷ xs) zero = one_number (turn x.variable.name)
  numbers_by (x ∷ xs) (suc r) = numbers_by xs r

-- ---- all

pub numbers_are : (old new : Program) (n : RegionNumbers) (olds news : List Region) (ps : Pairs) (before after : Table) → olds ≡ old.regions → news ≡ new.regions → ps ≡ region_pairs old new
    → ArePlacesOf before (names_of_regions olds) → ArePlacesOf after (names_of_regions news)
    → n.old.items ≡ map (λ x. option_and_then (found_in before) (old_name ps x.variable.name)) news
    → n.new.items ≡ map (λ x. option_and_then (found_in after) (new_name ps x.variable.name)) olds
    → AreNumbers old new n
numbers_are old new n olds news ps before after e f g a b h k = record {
  before = λ r.
      ap (λ xs. number_at xs r) h ∙ numbers_by (old_name ps) before (names_of_regions olds) a news r
      ∙ ap (λ xs. placed_by (old_name ps) before (names_of_regions olds) a (slice_get xs r)) f
      ∙ ap (λ qs. option_map (λ x. x.variable.name) (slice_get new.regions r) >>= old_name qs >>= λ m. first_place m (names_of_regions olds)) g
      ∙ ap (λ xs. option_map (λ x. x.variable.name) (slice_get new.regions r) >>= old_name (region_pairs old new) >>= λ m. first_place m (names_of_regions xs)) e
      ∙ in_turn (option_map (λ x. x.variable.name) (slice_get new.regions r)) (old_name (region_pairs old new)) (λ m. first_place m (names_of_regions old.regions));
  after = λ r.
      ap (λ xs. number_at xs r) k ∙ numbers_by (new_name ps) after (names_of_regions news) b olds r
      ∙ ap (λ xs. placed_by (new_name ps) after (names_of_regions news) b (slice_get xs r)) e
      ∙ ap (λ qs. option_map (λ x. x.variable.name) (slice_get old.regions r) >>= new_name qs >>= λ m. first_place m (names_of_regions news)) g
      ∙ ap (λ xs. option_map (λ x. x.variable.name) (slice_get old.regions r) >>= new_name (region_pairs old new) >>= λ m. first_place m (names_of_regions xs)) f
      ∙ in_turn (option_map (λ x. x.variable.name) (slice_get old.regions r)) (new_name (region_pairs old new)) (λ m. first_place m (names_of_regions new.regions));
}
