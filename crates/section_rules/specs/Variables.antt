-- Tests of the type of a variable.
use Rattle.std.specs.Prelude.{ℕ, Bool, not, ◌&&◌, ◌||◌, List, map, Option, option_and_then}
use Rattle.std.proofs.Common.{Bor}
use Rattle.std.specs.Option.{is_none}
use Rattle.st_types.specs.declared.st_type.StType.{StType}
use Rattle.st_tree.specs.declared.declaration.ClassDecl.{ClassDecl}
use Rattle.st_tree.specs.declared.declaration.SectionSort.{SectionSort}
use Rattle.st_tree.specs.Initial.{Initial}
use Rattle.st_unit_rules.specs.VariableRules.{holds_instances_told, makes_instances, is_abstract_class, class_held, is_no_constant_type}

-- classes, as the code lends them
abbrev pub classes_of : List (Bor (ClassDecl ℕ)) → List (ClassDecl ℕ)
classes_of cs = map (λ c. c.now) cs

abbrev pub is_misplaced : Bool → Option StType → Bool
is_misplaced may t = not may && holds_instances_told t

abbrev pub makes_abstract : List (ClassDecl ℕ) → SectionSort → Option StType → Bool
makes_abstract classes s t = makes_instances s && is_abstract_class classes (option_and_then class_held t)

abbrev pub is_bad_constant : Option StType → Option (Initial ℕ) → Bool
is_bad_constant t i = is_no_constant_type t || is_none i
