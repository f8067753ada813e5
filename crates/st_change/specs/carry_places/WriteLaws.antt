-- Laws of the writes of what is carried.
use Rattle.std.specs.Prelude.{◌≡◌, ◌↔◌, Bool, List, Some}
use Rattle.st_values.specs.Program.{Program}
use Rattle.st_values.specs.Value.{Value, Store}
use Rattle.st_values.specs.Shape.{Shape}
use Rattle.st_meaning.specs.st_frame.Good.{Fit, Good}
use Rattle.st_meaning.specs.st_frame.Promise.Declarations.{Each}
use Rattle.st_change.specs.Carry.{Old, carry}
use Rattle.st_change.specs.Change.{carry_store}
use Rattle.st_change.specs.carry_places.Writes.{Write, written, Carries, Covers}
use Rattle.st_change.specs.carry_places.StoreWrites.{StoreWrite, stored, StoreCarries, StoreCovers}

pub record WriteLaws : Type 0 where
  -- what is carried into a value is a row of writes, each of what is carried to its place alone
  pub row : (old new : Program) (keeping : Bool) (sh : Shape) (o : Old) (held : Value) → Fit new sh held
      → (ws : List Write) × Each (Carries old new keeping sh o held) ws × (written held ws ≡ Some (carry old new keeping sh o held))
  -- and any row of such writes, in any order, makes it exactly where it leaves out no place
  pub any : (old new : Program) (keeping : Bool) (sh : Shape) (o : Old) (held : Value) (ws : List Write) → Fit new sh held → Each (Carries old new keeping sh o held) ws
      → (written held ws ≡ Some (carry old new keeping sh o held)) ↔ Covers old new keeping sh o held ws
  -- the same of what is carried into a store
  pub store_row : (old new : Program) (keeping : Bool) (before held : Store) → Good new held
      → (ws : List StoreWrite) × Each (StoreCarries old new keeping before held) ws × (stored held ws ≡ Some (carry_store old new keeping before held))
  pub store_any : (old new : Program) (keeping : Bool) (before held : Store) (ws : List StoreWrite) → Good new held → Each (StoreCarries old new keeping before held) ws
      → (stored held ws ≡ Some (carry_store old new keeping before held)) ↔ StoreCovers old new keeping before held ws
