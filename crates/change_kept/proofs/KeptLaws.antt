-- Which regions are kept, and which paths move, test by test.
use Rattle.std.proofs.Common.{◌≡◌, ◌≤◌, ℕ, Bool, true, false, length, Option, Some, None, refl, sym, ap, ap₂, ◌∙◌}
use Rattle.std.specs.Prelude.{◌&&◌, ◌||◌, not, option_map, slice_get}
use Rattle.std.proofs.lemmas.Option.{slice_get_past, slice_get-map}
use Rattle.st_tree.specs.declared.path.Path.{Path}
use Rattle.st_tree.specs.declared.program.Program.{Program as CheckedProgram}
use Rattle.st_tree.specs.declared.program.RegionDecl.{RegionDecl}
use Rattle.st_values.specs.Program.{Region, Program}
use Rattle.st_values.specs.Shape.{Shape, has_instance, same_shape, region_shape}
use Rattle.st_values.specs.View.{program_of, region_of}
use Rattle.st_change.specs.From.{old_region}
use Rattle.st_change.specs.Counterpart.{has_fresh, equal_shapes, is_fresh, keeps, kept, unmarked_steps, unmarked_region, moves}
use Rattle.change_kept.specs.Kept.{is_set}

none_and : (b : Bool) → false ≡ (b && false)
none_and true = refl
none_and false = refl

and_none : (a b : Bool) → a ≡ false → false ≡ (a && b)
and_none a b e = ap (λ x. x && b) (sym e)

only : (b : Bool) → b ≡ (b && true)
only true = refl
only false = refl

-- a region by its declaration
pub region_at : (p : CheckedProgram) (r : ℕ) (o : Option RegionDecl) → slice_get p.regions r ≡ o → slice_get (program_of p).regions r ≡ option_map region_of o
region_at p r o e = slice_get-map region_of p.regions r ∙ ap (option_map region_of) e

module _ (old new : Program) (r : ℕ) where
  pub no_region : slice_get new.regions r ≡ None → false ≡ kept old new r
  unfolding kept
  no_region e = by (old_region old new r) ∙ ap (λ o. keeps old new r o (old_region old new r)) (sym e)
    where
      by : (o : Option ℕ) → false ≡ keeps old new r None o
      by o = refl

  pub no_old : old_region old new r ≡ None → false ≡ kept old new r
  unfolding kept
  no_old e = by (slice_get new.regions r) ∙ ap (keeps old new r (slice_get new.regions r)) (sym e)
    where
      by : (o : Option Region) → false ≡ keeps old new r o None
      by None = refl
      by (Some x) = refl

  -- of a region that is there, and comes from one
  kept_by : (x : Region) (o : ℕ) → slice_get new.regions r ≡ Some x → old_region old new r ≡ Some o → kept old new r ≡ (equal_shapes (region_shape new r) (region_shape old o) && not (is_fresh x.variable (region_shape new r)))
  unfolding kept
  kept_by x o e f = ap₂ (keeps old new r) e f

  pub no_shape : (x : Region) (o : ℕ) → slice_get new.regions r ≡ Some x → old_region old new r ≡ Some o → region_shape new r ≡ None → false ≡ kept old new r
  no_shape x o e f g = and_none (equal_shapes (region_shape new r) (region_shape old o)) (not (is_fresh x.variable (region_shape new r))) (ap (λ z. equal_shapes z (region_shape old o)) g) ∙ sym (kept_by x o e f)

  pub no_old_shape : (x : Region) (o : ℕ) → slice_get new.regions r ≡ Some x → old_region old new r ≡ Some o → region_shape old o ≡ None → false ≡ kept old new r
  no_old_shape x o e f g =
      and_none (equal_shapes (region_shape new r) (region_shape old o)) (not (is_fresh x.variable (region_shape new r))) (ap (equal_shapes (region_shape new r)) g ∙ by (region_shape new r)) ∙ sym (kept_by x o e f)
    where
      by : (z : Option Shape) → equal_shapes z None ≡ false
      by None = refl
      by (Some sh) = refl

  pub is_anew : (x : Region) (o : ℕ) (sh : Shape) → slice_get new.regions r ≡ Some x → old_region old new r ≡ Some o → region_shape new r ≡ Some sh → ((x.variable.marks.init_on_change && has_instance sh) || has_fresh sh) ≡ true → false ≡ kept old new r
  is_anew x o sh e f g h =
      none_and (equal_shapes (region_shape new r) (region_shape old o))
      ∙ sym (ap (λ b. equal_shapes (region_shape new r) (region_shape old o) && not b) (ap (is_fresh x.variable) g ∙ h)) ∙ sym (kept_by x o e f)

  pub is_equal : (x : Region) (o : ℕ) (sh osh : Shape) → slice_get new.regions r ≡ Some x → old_region old new r ≡ Some o → region_shape new r ≡ Some sh → region_shape old o ≡ Some osh → ((x.variable.marks.init_on_change && has_instance sh) || has_fresh sh) ≡ false → same_shape sh osh ≡ kept old new r
  is_equal x o sh osh e f g k h =
      only (same_shape sh osh)
      ∙ sym (ap₂ (λ a b. a && not b) (ap₂ equal_shapes g k) (ap (is_fresh x.variable) g ∙ h)) ∙ sym (kept_by x o e f)

-- ---- all regions

-- what the flag of a region says
abbrev pub Tells : Program → Program → ℕ → Option Bool → Type 0
Tells old new r o = is_set o ≡ kept old new r

pub past_tells : (old : Program) (p : CheckedProgram) (r : ℕ) → length p.regions ≤ r → Tells old (program_of p) r None
past_tells old p r h = no_region old (program_of p) r (region_at p r None (slice_get_past p.regions r h))

-- ---- moving paths

module _ (old new : Program) (q : Path) where
  pub stays_kept : kept old new q.region ≡ true → false ≡ moves old new q
  stays_kept e = sym (ap (λ b. not b && (unmarked_region (slice_get new.regions q.region) && unmarked_steps (region_shape new q.region) q.steps)) e)

  pub stays_marked : unmarked_region (slice_get new.regions q.region) ≡ false → false ≡ moves old new q
  stays_marked e = none_and (not (kept old new q.region)) ∙ sym (ap (λ b. not (kept old new q.region) && (b && unmarked_steps (region_shape new q.region) q.steps)) e)

  pub moves_by : (o : Option Shape) → kept old new q.region ≡ false → unmarked_region (slice_get new.regions q.region) ≡ true → region_shape new q.region ≡ o → unmarked_steps o q.steps ≡ moves old new q
  moves_by o e f g = sym (ap₂ (λ a b. not a && (b && unmarked_steps (region_shape new q.region) q.steps)) e f ∙ ap (λ z. unmarked_steps z q.steps) g)
