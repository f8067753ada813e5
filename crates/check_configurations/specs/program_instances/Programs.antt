-- The programs of a unit, and the one of a name.
use Rattle.std.specs.Prelude.{◌≡◌, ℕ, List, Option, Some, map, option_map}
use Rattle.st_tree.specs.declared.declaration.ProgramDecl.{ProgramDecl}
use Rattle.st_tree.specs.declared.unit.Decl.{Decl}
use Rattle.st_rules.specs.Named.{first_place}
use Rattle.st_unit_rules.specs.declared_names.Declarations.{programs_in}
use Rattle.st_unit_rules.specs.Checked.{Each}
use Rattle.st_unit_rules.specs.DeclarationRules.{program_by_name}
use Rattle.class_rows.specs.Index.{Indexes}
use Rattle.check_names.specs.name_spaces.NamesIn.{names_of}
use Rattle.check_regions.specs.declared.region_rules.programs.InstancedProgram.{InstancedProgram}
use Rattle.check_regions.specs.region_rules.Taken.{IsInstanced}
use Rattle.check_configurations.specs.declared.program_instances.programs.UnitPrograms.{UnitPrograms}

-- the names of these programs, what their instances take, and the first place of each name
pub record Has (t : UnitPrograms) (decls : List (Decl ℕ)) (ps : List (ProgramDecl ℕ)) : Type 0 where
  pub names-are : names_of t.names.items ≡ map (λ p. p.name) ps
  pub take : Each (λ g p. IsInstanced decls (Some g) (Some p)) t.programs.items ps
  pub places-are : Indexes t.places (map (λ p. p.name.text) ps)

-- these are the programs of the unit
pub record HasPrograms (t : UnitPrograms) (decls : List (Decl ℕ)) : Type 0 where
  pub all : Has t decls (programs_in decls)

-- the number of the first program of the name, and what each instance of it takes
pub record IsProgramNamed (decls : List (Decl ℕ)) (name : List ℕ) (found : Option (ℕ × InstancedProgram)) : Type 0 where
  pub number-is : option_map (λ f. f.0) found ≡ first_place name (map (λ p. p.name.text) (programs_in decls))
  pub takes : IsInstanced decls (option_map (λ f. f.1) found) (program_by_name decls name (programs_in decls))
