-- What the regions before one take together, and what an instance of a program takes.
use Rattle.std.specs.Prelude.{◌≡◌, ℕ, List, [], map, flat_map, length, Option, Some, None}
use Rattle.st_tree.specs.declared.declaration.ProgramDecl.{ProgramDecl}
use Rattle.st_tree.specs.declared.unit.Decl.{Decl}
use Rattle.st_unit_rules.specs.declared_names.Declarations.{Region}
use Rattle.st_unit_rules.specs.declared_names.Variables.{sections_written}
use Rattle.st_unit_rules.specs.Addresses.{Bits, all_bits}
use Rattle.st_unit_rules.specs.DeclarationRules.{unit, region_bits, region_values, program_bits, program_values}
use Rattle.st_unit_rules.specs.Limits.{sum_of}
use Rattle.check_regions.specs.shared_bits.Taken.{Takes}
use Rattle.check_limits.specs.type_sizes.Size.{capped}
use Rattle.check_regions.specs.declared.region_rules.programs.InstancedProgram.{InstancedProgram}
use Rattle.check_regions.specs.declared.region_rules.taken.TakenRegions.{TakenRegions}

-- taken are the bits of these regions, their number and their values, 2^32 - 1 where there are more
pub record Holds (taken : TakenRegions) (decls : List (Decl ℕ)) (before : List Region) : Type 0 where
  pub bits-are : Takes taken.bits (flat_map (region_bits decls) before)
  pub count-is : taken.count ≡ capped (length before)
  pub values-are : taken.values ≡ capped (sum_of (unit decls) (map (region_values decls) before))

abbrev pub values_given : Option InstancedProgram → ℕ
values_given None = 0
values_given (Some g) = g.values

abbrev pub bits_given : Option InstancedProgram → List Bits
bits_given None = []
bits_given (Some g) = all_bits (sections_written g.sections.now)

-- what is given is the program, or that there is none
pub record IsInstanced (decls : List (Decl ℕ)) (given : Option InstancedProgram) (program : Option (ProgramDecl ℕ)) : Type 0 where
  pub values-are : values_given given ≡ capped (program_values decls program)
  pub bits-are : bits_given given ≡ program_bits decls program
