-- Arrays of a type, from what is told of the innermost one's elements.
use Rattle.std.specs.Prelude.{◌≡◌, ℕ, List, [], ◌∷◌, ◌++◌, flat_map, reverse, Option}
use Rattle.st_types.specs.declared.st_type.StType.{StType}
use Rattle.st_tree.specs.declared.program.Note.{Note}
use Rattle.st_tree.specs.declared.program.Target.TheVariants as target
use Rattle.st_tree.specs.declared.type_spec.ArraySpec.{ArraySpec}
use Rattle.st_tree.specs.declared.type_spec.Bounds.{Bounds}
use Rattle.st_rules.specs.Faults.{least, earlier}
use Rattle.st_rules.specs.Scope.{Scope}
use Rattle.st_rules.specs.Expressions.{note}
use Rattle.st_unit_rules.specs.declared_names.WrittenTypes.{arrays_of, dimension_faults}
use Rattle.st_unit_rules.specs.Checked.{Each, TypedBounds}
use Rattle.check_declared_variables.specs.declared.type_rules.arrays.Arrays.{Arrays}
use Rattle.check_declared_variables.specs.declared.type_rules.arrays.Around.{Around}
use Rattle.check_declared_variables.specs.declared.type_rules.dimensions.Told.{Told}

abbrev pub bounds_of : List (ArraySpec ℕ) → List (Bounds ℕ)
bounds_of arrays = flat_map (λ a. a.bounds) arrays

-- each array has the type from there on, where its elements have this one
abbrev pub TypedAround : Scope → Option StType → List (ArraySpec ℕ) → List (ArraySpec Note) → Type 0
TypedAround s of [] [] = Unit {0}
TypedAround s of (a ∷ as') (b ∷ bs) = (b.note ≡ note a.note (arrays_of s (bounds_of (a ∷ as')) of) target.Nothing) × Each (TypedBounds s) a.bounds b.bounds × TypedAround s of as' bs
TypedAround s of _ _ = ⊥

-- an array around what is told of its elements
pub record IsAround (x : Around) (s : Scope) (a : ArraySpec ℕ) (inner : Told) : Type 0 where
  pub kind : x.told.kind ≡ arrays_of s a.bounds inner.kind
  pub least : x.told.least ≡ earlier (least (flat_map (dimension_faults s) a.bounds)) inner.least
  pub note : x.array.note ≡ note a.note x.told.kind target.Nothing
  pub bounds : Each (TypedBounds s) a.bounds x.array.bounds

pub record AddsArray (x : Arrays) (before : List (ArraySpec Note)) (around : Around) : Type 0 where
  pub told : x.told ≡ around.told
  pub arrays : x.arrays.items ≡ before ++ around.array ∷ []

-- these arrays around what is told of the innermost one's elements, the last ones first
pub record ArraysFind (x : Arrays) (s : Scope) (all : List (ArraySpec ℕ)) (inner : Told) : Type 0 where
  pub kind : x.told.kind ≡ arrays_of s (bounds_of all) inner.kind
  pub least : x.told.least ≡ earlier (least (flat_map (dimension_faults s) (bounds_of all))) inner.least
  pub arrays : TypedAround s inner.kind all (reverse x.arrays.items)
