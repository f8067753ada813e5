-- The code's shapes as the meaning's.
use Rattle.std.specs.Prelude.{◌≡◌, ℕ, ℤ, List, [], ◌∷◌, map}
use Rattle.std.proofs.Common.{sym, ◌∙◌, ap}
use Rattle.st_types.specs.declared.elem.Elem.{Elem}
use Rattle.st_values.specs.Program.{Variable}
use Rattle.st_values.specs.Shape.{Shape, Elementary, Enumeration, Reference, Interface, Array, Structure, Instance, Fields, no_fields, field_then}
use Rattle.st_values.specs.View.{texts}
use Rattle.program_tables.specs.st_initial.Variables.{variable_of}
use Rattle.shape_trees.specs.declared.shape.Shape.TheOpen.{Shape-F, Field-F}
use Rattle.shape_trees.specs.declared.shape.Shape.TheFolds.{fold-Shape, fold-Field, fold-roll-Shape, fold_out-Field}
use Rattle.shape_trees.specs.declared.shape.Shape.{Shape as CodeShape}
use Rattle.shape_trees.specs.declared.shape.Shape.TheVariants as code
use Rattle.shape_trees.specs.declared.shape.Field.{Field as CodeField}

abbrev pub listed : List (Variable × Shape) → Fields
listed [] = no_fields
listed (f ∷ fs) = field_then f.0 f.1 (listed fs)

abbrev pub shape_level : Shape-F Shape (Variable × Shape) → Shape
shape_level (Shape-F.Elementary e) = Elementary e
shape_level (Shape-F.Enumeration name values) = Enumeration name.now (texts values.now)
shape_level (Shape-F.Reference c name) = Reference c name.now
shape_level (Shape-F.Interface i name) = Interface i name.now
shape_level (Shape-F.Array low n sh) = Array low n sh
shape_level (Shape-F.Structure n name fs) = Structure name.now (listed fs)
shape_level (Shape-F.Instance c name fs) = Instance c name.now (listed fs)

abbrev pub field_level : Field-F Shape (Variable × Shape) → Variable × Shape
field_level f = (variable_of f.variable, f.shape)

unfoldable pub shape_of : CodeShape → Shape
shape_of = fold-Shape Shape (Variable × Shape) shape_level field_level

unfoldable pub field_of : CodeField → Variable × Shape
field_of = fold-Field Shape (Variable × Shape) shape_level field_level

abbrev pub fields_of : List CodeField → Fields
fields_of fs = listed (map field_of fs)

pub shape-Elementary : (e : Elem) → shape_of (code.Elementary e) ≡ Elementary e
unfolding shape_of field_of
shape-Elementary e = ap shape_of (sym (code.rolls-Elementary e)) ∙ fold-roll-Shape _ _ shape_level field_level (Shape-F.Elementary e)

pub shape-Enumeration : (name : _) (values : _) → shape_of (code.Enumeration name values) ≡ Enumeration name.now (texts values.now)
unfolding shape_of field_of
shape-Enumeration name values = ap shape_of (sym (code.rolls-Enumeration name values)) ∙ fold-roll-Shape _ _ shape_level field_level (Shape-F.Enumeration name values)

pub shape-Reference : (c : ℕ) (name : _) → shape_of (code.Reference c name) ≡ Reference c name.now
unfolding shape_of field_of
shape-Reference c name = ap shape_of (sym (code.rolls-Reference c name)) ∙ fold-roll-Shape _ _ shape_level field_level (Shape-F.Reference c name)

pub shape-Interface : (i : ℕ) (name : _) → shape_of (code.Interface i name) ≡ Interface i name.now
unfolding shape_of field_of
shape-Interface i name = ap shape_of (sym (code.rolls-Interface i name)) ∙ fold-roll-Shape _ _ shape_level field_level (Shape-F.Interface i name)

pub shape-Array : (low : ℤ) (n : ℕ) (sh : CodeShape) → shape_of (code.Array low n sh) ≡ Array low n (shape_of sh)
unfolding shape_of field_of
shape-Array low n sh = ap shape_of (sym (code.rolls-Array low n sh)) ∙ fold-roll-Shape _ _ shape_level field_level (Shape-F.Array low n sh)

pub shape-Structure : (n : ℕ) (name : _) (fs : List CodeField) → shape_of (code.Structure n name fs) ≡ Structure name.now (fields_of fs)
unfolding shape_of field_of
shape-Structure n name fs = ap shape_of (sym (code.rolls-Structure n name fs)) ∙ fold-roll-Shape _ _ shape_level field_level (Shape-F.Structure n name fs)

pub shape-Instance : (c : ℕ) (name : _) (fs : List CodeField) → shape_of (code.Instance c name fs) ≡ Instance c name.now (fields_of fs)
unfolding shape_of field_of
shape-Instance c name fs = ap shape_of (sym (code.rolls-Instance c name fs)) ∙ fold-roll-Shape _ _ shape_level field_level (Shape-F.Instance c name fs)

pub field-is : (f : CodeField) → field_of f ≡ (variable_of f.variable, shape_of f.shape)
unfolding shape_of field_of
field-is f = fold_out-Field _ _ shape_level field_level f

pub ruleset shape_views = (shape-Elementary, shape-Enumeration, shape-Reference, shape-Interface, shape-Array, shape-Structure, shape-Instance, field-is)
