-- Laws of what is carried.
use Rattle.std.specs.Prelude.{◌≡◌, ℕ, Bool, false, List, Some, None}
use Rattle.st_values.specs.Program.{Program}
use Rattle.st_values.specs.Value.{Value, Store}
use Rattle.st_values.specs.Shape.{Shape, Array, Structure, Instance, Fields, no_fields, field_then, region_shape}
use Rattle.st_meaning.specs.st_frame.Good.{Fit, Good}
use Rattle.st_change.specs.From.{Pairs, old_name, structure_pairs, class_pairs, region_name, region_pairs}
use Rattle.st_change.specs.Carry.{Old, carry}
use Rattle.st_change.specs.Change.{carry_store}
use Rattle.st_change.specs.Laws.{NamesDiffer}

-- an old value, where there is one, fits its shape
abbrev pub OldFits : Program → Old → Type 0
OldFits p None = Unit {0}
OldFits p (Some a) = Fit p a.0 a.1

-- each variable comes from itself, and is not marked, at any depth
abbrev mutual
  pub Settled : Program → Shape → Type 0
  Settled p (Array low n sh) = Settled p sh
  Settled p (Structure name fs) = FieldsSettled p (structure_pairs p p name) fs
  Settled p (Instance c name fs) = FieldsSettled p (class_pairs p p c) fs
  Settled p _ = Unit {0}

  pub FieldsSettled : Program → Pairs → Fields → Type 0
  FieldsSettled p ps no_fields = Unit {0}
  FieldsSettled p ps (field_then v sh fs) =
      (old_name ps v.name ≡ Some v.name) × (v.marks.init_on_change ≡ false) × (v.marks.no_copy ≡ false) × Settled p sh × FieldsSettled p ps fs

-- a program that changes to itself
pub record Settles (p : Program) : Type 0 where
  pub differ : NamesDiffer p
  pub regions : (r : ℕ) (name : List ℕ) → region_name p r ≡ Some name → old_name (region_pairs p p) name ≡ Some name
  pub shapes : (r : ℕ) (sh : Shape) → region_shape p r ≡ Some sh → Settled p sh

pub record CarryLaws : Type 0 where
  -- what a new place gets fits it, from whatever it comes
  pub fits : (old new : Program) (keeping : Bool) (sh : Shape) (o : Old) (held : Value) → OldFits old o → Fit new sh held → Fit new sh (carry old new keeping sh o held)
  -- and a good store into which regions of a good one are carried stays good
  pub store : (old new : Program) (keeping : Bool) (before held : Store) → Good old before → Good new held → Good new (carry_store old new keeping before held)
  -- what is carried to its own place is what was there
  pub same : (p : Program) (keeping : Bool) (r : ℕ) (sh : Shape) (v held : Value) → Settles p → region_shape p r ≡ Some sh → Fit p sh v → Fit p sh held → carry p p keeping sh (Some (sh, v)) held ≡ v
