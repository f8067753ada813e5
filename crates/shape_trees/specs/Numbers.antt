-- The numbers that stand in shapes.
use Rattle.std.specs.Prelude.{◌≡◌, ℕ, Bool, true, false, ◌&&◌, List, [], ◌∷◌, map, Option, Some, None, option_map, slice_get}
use Rattle.std.proofs.Common.{sym, ◌∙◌, ap}
use Rattle.plc_text.specs.Words.{same}
use Rattle.st_values.specs.Program.{Variable, Program, class_at, class_variables}
use Rattle.st_values.specs.Shape.{same_names}
use Rattle.program_tables.specs.st_initial.Variables.{fields_at}
use Rattle.shape_trees.specs.declared.shape.Shape.TheOpen.{Shape-F, Field-F}
use Rattle.shape_trees.specs.declared.shape.Shape.TheFolds.{fold-Shape, fold-Field, fold-roll-Shape, fold_out-Field}
use Rattle.shape_trees.specs.declared.shape.Shape.{Shape as CodeShape}
use Rattle.shape_trees.specs.declared.shape.Shape.TheVariants as code
use Rattle.shape_trees.specs.declared.shape.Field.{Field as CodeField}

abbrev pub names_of : List Variable → List (List ℕ)
names_of vs = map (λ v. v.name) vs

abbrev pub is_called : Option (List ℕ) → List ℕ → Bool
is_called None name = false
is_called (Some n) name = same n name

abbrev pub all_passed : List (List ℕ × Bool) → Bool
all_passed [] = true
all_passed (f ∷ fs) = f.1 && all_passed fs

abbrev pub names_in : List (List ℕ × Bool) → List (List ℕ)
names_in fs = map (λ f. f.0) fs

module _ (p : Program) where
  -- the number is that of a type of the name, and these are the names of its fields
  abbrev pub is_structure : ℕ → List ℕ → List (List ℕ) → Bool
  is_structure n name names = is_called (option_map (λ t. t.name) (slice_get p.types n)) name && same_names (names_of (fields_at p n)) names

  -- the number is that of a class or program of the name, and these are the names of its variables
  abbrev pub is_class : ℕ → List ℕ → List (List ℕ) → Bool
  is_class c name names = is_called (option_map (λ k. k.name) (class_at p c)) name && same_names (names_of (class_variables p c)) names

  abbrev pub number_level : Shape-F Bool (List ℕ × Bool) → Bool
  number_level (Shape-F.Elementary e) = true
  number_level (Shape-F.Enumeration name values) = true
  number_level (Shape-F.Reference c name) = true
  number_level (Shape-F.Interface i name) = true
  number_level (Shape-F.Array low n b) = b
  number_level (Shape-F.Structure n name fs) = is_structure n name.now (names_in fs) && all_passed fs
  number_level (Shape-F.Instance c name fs) = is_class c name.now (names_in fs) && all_passed fs

  abbrev pub named_level : Field-F Bool (List ℕ × Bool) → List ℕ × Bool
  named_level f = (f.variable.name.now, f.shape)

  -- each number in a shape is that of the type or class whose fields or variables it has
  unfoldable pub is_numbered : CodeShape → Bool
  is_numbered = fold-Shape Bool (List ℕ × Bool) number_level named_level

  unfoldable pub is_named_numbered : CodeField → List ℕ × Bool
  is_named_numbered = fold-Field Bool (List ℕ × Bool) number_level named_level

  abbrev pub are_numbered : List CodeField → Bool
  are_numbered fs = all_passed (map is_named_numbered fs)

  -- of what there is
  abbrev pub is_numbered_at : Option CodeShape → Bool
  is_numbered_at None = true
  is_numbered_at (Some sh) = is_numbered sh

  pub number-Elementary : (e : _) → is_numbered (code.Elementary e) ≡ true
  unfolding is_numbered is_named_numbered
  number-Elementary e = ap is_numbered (sym (code.rolls-Elementary e)) ∙ fold-roll-Shape _ _ number_level named_level (Shape-F.Elementary e)

  pub number-Enumeration : (name : _) (values : _) → is_numbered (code.Enumeration name values) ≡ true
  unfolding is_numbered is_named_numbered
  number-Enumeration name values = ap is_numbered (sym (code.rolls-Enumeration name values)) ∙ fold-roll-Shape _ _ number_level named_level (Shape-F.Enumeration name values)

  pub number-Reference : (c : ℕ) (name : _) → is_numbered (code.Reference c name) ≡ true
  unfolding is_numbered is_named_numbered
  number-Reference c name = ap is_numbered (sym (code.rolls-Reference c name)) ∙ fold-roll-Shape _ _ number_level named_level (Shape-F.Reference c name)

  pub number-Interface : (i : ℕ) (name : _) → is_numbered (code.Interface i name) ≡ true
  unfolding is_numbered is_named_numbered
  number-Interface i name = ap is_numbered (sym (code.rolls-Interface i name)) ∙ fold-roll-Shape _ _ number_level named_level (Shape-F.Interface i name)

  pub number-Array : (low : _) (n : ℕ) (sh : CodeShape) → is_numbered (code.Array low n sh) ≡ is_numbered sh
  unfolding is_numbered is_named_numbered
  number-Array low n sh = ap is_numbered (sym (code.rolls-Array low n sh)) ∙ fold-roll-Shape _ _ number_level named_level (Shape-F.Array low n sh)

  pub number-Structure : (n : ℕ) (name : _) (fs : List CodeField) → is_numbered (code.Structure n name fs) ≡ (is_structure n name.now (names_in (map is_named_numbered fs)) && are_numbered fs)
  unfolding is_numbered is_named_numbered
  number-Structure n name fs = ap is_numbered (sym (code.rolls-Structure n name fs)) ∙ fold-roll-Shape _ _ number_level named_level (Shape-F.Structure n name fs)

  pub number-Instance : (c : ℕ) (name : _) (fs : List CodeField) → is_numbered (code.Instance c name fs) ≡ (is_class c name.now (names_in (map is_named_numbered fs)) && are_numbered fs)
  unfolding is_numbered is_named_numbered
  number-Instance c name fs = ap is_numbered (sym (code.rolls-Instance c name fs)) ∙ fold-roll-Shape _ _ number_level named_level (Shape-F.Instance c name fs)

  pub named-is : (f : CodeField) → is_named_numbered f ≡ (f.variable.name.now, is_numbered f.shape)
  unfolding is_numbered is_named_numbered
  named-is f = fold_out-Field _ _ number_level named_level f

pub ruleset number_views = (number-Elementary, number-Enumeration, number-Reference, number-Interface, number-Array, number-Structure, number-Instance, named-is)
