-- The places of accepted programs before and after a change.
use Rattle.std.specs.Prelude.{◌≡◌, ◌↔◌, ℕ, Bool, true, false, List, Some, None}
use Rattle.st_tree.specs.declared.program.Program.{Program as Checked}
use Rattle.st_tree.specs.declared.unit.Decl.{Decl}
use Rattle.st_unit_rules.specs.Checked.{IsChecked}
use Rattle.st_unit_rules.specs.UnitRefusal.{BreaksNothing}
use Rattle.st_values.specs.Program.{Variable, Class, Program, class_at}
use Rattle.st_values.specs.Value.{Path, Value, Store, at}
use Rattle.st_values.specs.Shape.{Shape, region_shape, path_shape}
use Rattle.st_values.specs.View.{program_of}
use Rattle.st_meaning.specs.Cycle.{all_ticks}
use Rattle.st_meaning.specs.st_frame.Good.{Good}
use Rattle.st_meaning.specs.st_frame.Promise.Declarations.{Each}
use Rattle.st_change.specs.carry_places.Places.{alike_along, is_number, old_at, goes, ComesFrom}
use Rattle.st_change.specs.Change.{carry_store, change}
use Rattle.st_change.specs.Counterpart.{is_instance_of, old_counterpart, new_counterpart}
use Rattle.st_change.specs.From.{old_path, new_path}
use Rattle.st_change.specs.Hook.{ran}
use Rattle.st_change.specs.Laws.{NamesDiffer, Paired}
use Rattle.st_change.specs.SameLaws.{IsUnmarked}
use Rattle.program_laws.specs.Accepted.{IsAccepted}

-- the variable has no old name, is not initialised at changes, and is copied
abbrev pub IsPlain : Variable → Type 0
IsPlain v = (v.marks.renamed_from ≡ None) × (v.marks.init_on_change ≡ false) × (v.marks.no_copy ≡ false)

-- no variable of a class and no region is marked; fields of structures never are
pub record HasNoMarks (p : Program) : Type 0 where
  pub classes : (c : ℕ) (k : Class) → class_at p c ≡ Some k → Each IsPlain k.own
  pub regions : Each (λ x. IsPlain x.variable) p.regions

pub record AcceptedPaths : Type 0 where
  -- in the program of a unit that breaks no rule no name of a region stands twice, nor one of a field in any part of it
  pub differ : (decls : List (Decl ℕ)) (p : Checked) → BreaksNothing decls → IsChecked decls p → NamesDiffer (program_of p)
  -- and of two such programs none is paired twice
  pub paired : (before after : List (Decl ℕ)) (old new : Checked) → BreaksNothing before → BreaksNothing after → IsChecked before old → IsChecked after new → Paired (program_of old) (program_of new)
  -- so it is of accepted programs
  pub names : (p : Program) → IsAccepted p → NamesDiffer p
  pub pairs : (old new : Program) → IsAccepted old → IsAccepted new → Paired old new
  -- paths before and after a change are each other's inverse, and counterparts name each other
  pub inverse : (old new : Program) → IsAccepted old → IsAccepted new → (q r : Path) → (old_path old new q ≡ Some r) ↔ (new_path old new r ≡ Some q)
  pub counterparts : (old new : Program) → IsAccepted old → IsAccepted new → (q r : Path) (name : List ℕ) → is_instance_of name (path_shape new q) ≡ true → is_instance_of name (path_shape old r) ≡ true
      → (old_counterpart old new q name ≡ Some r) ↔ (new_counterpart old new r name ≡ Some q)
  -- a place comes from the old value at its old path, where the ways are alike
  pub origin : (old new : Program) (before : Store) (q : Path) (a : Shape × Value) → IsAccepted new → Good old before → (old_at old new before q ≡ Some a) ↔ ComesFrom old new before q a
  -- and a number or an enumerator of the same type goes on from there as it is
  pub number : (old new : Program) (keeping : Bool) (before held : Store) (q r : Path) (leaf : Shape) → IsAccepted new → Good old before → Good new held → old_path old new q ≡ Some r → alike_along (region_shape new q.region) (region_shape old r.region) q.steps r.steps ≡ true
      → goes old new keeping q ≡ true → path_shape new q ≡ Some leaf → path_shape old r ≡ Some leaf → is_number leaf ≡ true → at (carry_store old new keeping before held) q ≡ at before r
  -- a change of a program to itself, where nothing is marked, leaves a good store
  pub unmarked : (p : Program) → IsAccepted p → HasNoMarks p → IsUnmarked p
  pub stays : (p : Program) (s : Store) → IsAccepted p → HasNoMarks p → Good p s → change p p s ≡ ran s all_ticks
