-- The variables that declarations give to routines.
use Rattle.std.specs.Prelude.{ℕ, Bool, true, false, ◌-◌, nat_lt, if◌then◌else◌, List, [], ◌++◌, length, reverse, Option, Some, None, slice_get}
use Rattle.st_tree.specs.declared.declaration.ProgramDecl.{ProgramDecl}
use Rattle.st_tree.specs.declared.declaration.Section.{Section}
use Rattle.st_tree.specs.declared.declaration.SectionSort.{SectionSort}
use Rattle.st_tree.specs.declared.declaration.SectionSort.TheVariants as sort
use Rattle.st_tree.specs.declared.program.Note.{Note}
use Rattle.st_tree.specs.declared.program.Program.{Program as CheckedProgram}
use Rattle.st_tree.specs.declared.type_spec.TypeSpec.{TypeSpec}
use Rattle.st_rules.specs.Classes.{chain}
use Rattle.st_rules.specs.Modifiers.{is_constant}
use Rattle.st_values.specs.Program.{Variable, Parameter}
use Rattle.st_values.specs.View.{sorted_items, variables_in, those, is_parameter, negated, result_of, local_parameters, declared_along}

abbrev pub is_external : SectionSort → Bool
is_external sort.External = true
is_external _ = false

-- what a section declares
abbrev pub section_variables : Section Note → List Variable
section_variables s = if is_constant s.modifiers then [] else sorted_items s.sort s.items

-- of a function or a method
abbrev pub parameters : List ℕ → Option (TypeSpec Note) → List (Section Note) → List Parameter
parameters name outcome sections = local_parameters (length (result_of name outcome)) (those is_parameter (variables_in sections))

abbrev pub locals : List ℕ → Option (TypeSpec Note) → List (Section Note) → List Variable
locals name outcome sections = result_of name outcome ++ (those is_parameter (variables_in sections) ++ those (negated is_parameter) (variables_in sections))

abbrev pub program_declared : Option (ProgramDecl Note) → List Variable
program_declared None = []
program_declared (Some d) = variables_in d.sections

-- what the class or program of a body declares, those of its bases first
abbrev pub body_variables : CheckedProgram → ℕ → List Variable
body_variables p c = if nat_lt c (length p.classes) then declared_along p.classes (reverse (chain p.classes c)) else program_declared (slice_get p.programs (c - length p.classes))
