-- Rows of writes into a store.
use Rattle.std.specs.Prelude.{◌≡◌, ◌⊎◌, Bool, true, List, [], ◌∷◌, Option, Some}
use Rattle.st_tree.specs.declared.path.Path.{Path}
use Rattle.st_values.specs.Program.{Program}
use Rattle.st_values.specs.Value.{Value, Store, at, put, ◌>>=◌}
use Rattle.st_values.specs.Shape.{Shape, path_shape}
use Rattle.st_change.specs.Carry.{carry}
use Rattle.st_change.specs.carry_places.Places.{old_at, goes}
use Rattle.st_change.specs.carry_places.Writes.{is_single}

pub record StoreWrite : Type 0 where
  pub path : Path
  pub value : Value

-- the store with these put, one after the other; none where one leads nowhere
abbrev pub stored : Store → List StoreWrite → Option Store
stored s [] = Some s
stored s (w ∷ ws) = do
  next ← put s w.path w.value
  stored next ws

-- one of the writes is to this path
abbrev pub IsPut : Path → List StoreWrite → Type 0
IsPut q [] = ⊥
IsPut q (w ∷ ws) = (w.path ≡ q) ⊎ IsPut q ws

-- A write of a single value to a place that is carried now: of what is carried to that place alone.
pub record StoreCarries (old new : Program) (keeping : Bool) (before held : Store) (w : StoreWrite) : Type 0 where
  pub leaf : Shape
  pub was : Value
  pub there : path_shape new w.path ≡ Some leaf
  pub holds : at held w.path ≡ Some was
  pub single : is_single w.value ≡ true
  pub free : goes old new keeping w.path ≡ true
  pub is : w.value ≡ carry old new keeping leaf (old_at old new before w.path) was

-- Each single place that is carried now is written, but where what is carried to it is what it holds.
pub record StoreCovers (old new : Program) (keeping : Bool) (before held : Store) (ws : List StoreWrite) : Type 0 where
  pub by : (q : Path) (leaf : Shape) (h : Value) → path_shape new q ≡ Some leaf → at held q ≡ Some h → is_single h ≡ true → goes old new keeping q ≡ true → IsPut q ws ⊎ (carry old new keeping leaf (old_at old new before q) h ≡ h)
