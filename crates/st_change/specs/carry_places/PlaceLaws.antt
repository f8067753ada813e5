-- Laws of the places of what is carried.
use Rattle.std.specs.Prelude.{◌≡◌, ◌↔◌, ℕ, Bool, true, if◌then◌else◌, List, Some, None, slice_get}
use Rattle.st_tree.specs.declared.path.Path.{Path}
use Rattle.st_tree.specs.declared.path.Step.{Step}
use Rattle.st_values.specs.Program.{Program}
use Rattle.st_values.specs.Value.{Value, Store, member, value_at, at}
use Rattle.st_values.specs.Shape.{Shape, shape_at, region_shape, path_shape}
use Rattle.st_meaning.specs.st_frame.Good.{Fit, Good}
use Rattle.st_change.specs.From.{old_path}
use Rattle.st_change.specs.Carry.{Old, carry}
use Rattle.st_change.specs.Change.{region_before, carry_store}
use Rattle.st_change.specs.Laws.{NamesDiffer}
use Rattle.st_change.specs.carry_places.Places.{alike_along, is_number, old_along, old_at, none_stays, region_goes, goes, ComesFrom}

pub record PlaceLaws : Type 0 where
  -- each place of a value gets what is carried to it alone, and under a variable that stays it is as it was held
  pub place : (old new : Program) (keeping : Bool) (sh leaf : Shape) (o : Old) (held h : Value) (ss : List Step) → Fit new sh held → shape_at sh ss ≡ Some leaf → value_at held ss ≡ Some h
      → value_at (carry old new keeping sh o held) ss ≡ Some (if none_stays old new keeping (Some sh) ss then carry old new keeping leaf (old_along old new sh o ss) h else h)
  -- what nothing comes to stays as it is held
  pub nothing : (old new : Program) (keeping : Bool) (sh : Shape) (held : Value) → carry old new keeping sh None held ≡ held
  -- in a store each region that is carried now gets what is carried to it, and each other one is as it was held
  pub region : (old new : Program) (keeping : Bool) (before held : Store) (r : ℕ) (sh : Shape) (h : Value) → region_shape new r ≡ Some sh → member held r ≡ Some h
      → member (carry_store old new keeping before held) r ≡ Some (if region_goes old new keeping r (slice_get new.regions r) then carry old new keeping sh (region_before old new before r) h else h)
  -- so does each place of a store
  pub store : (old new : Program) (keeping : Bool) (before held : Store) (q : Path) (leaf : Shape) (h : Value) → Good new held → path_shape new q ≡ Some leaf → at held q ≡ Some h
      → at (carry_store old new keeping before held) q ≡ Some (if goes old new keeping q then carry old new keeping leaf (old_at old new before q) h else h)
  -- a place comes from the old value at the old path of the place, with the shape that the old program has there, where the ways are alike
  pub origin : (old new : Program) (before : Store) (q : Path) (a : Shape × Value) → NamesDiffer new → Good old before → (old_at old new before q ≡ Some a) ↔ ComesFrom old new before q a
  -- so what stands at the old path of a number or an enumerator, of the same type and by a way that is alike, goes on as it is
  pub number : (old new : Program) (keeping : Bool) (before held : Store) (q r : Path) (leaf : Shape) → NamesDiffer new → Good old before → Good new held → old_path old new q ≡ Some r → alike_along (region_shape new q.region) (region_shape old r.region) q.steps r.steps ≡ true
      → goes old new keeping q ≡ true → path_shape new q ≡ Some leaf → path_shape old r ≡ Some leaf → is_number leaf ≡ true → at (carry_store old new keeping before held) q ≡ at before r
