-- The regions that were checked.
use Rattle.std.specs.Prelude.{ℕ, List, [], ◌∷◌, Option, Some, None}
use Rattle.st_tree.specs.declared.program.RegionDecl.{RegionDecl}
use Rattle.st_tree.specs.declared.unit.Decl.{Decl}
use Rattle.st_unit_rules.specs.declared_names.Declarations.{Region}
use Rattle.check_regions.specs.region_rules.Taken.{Holds}
use Rattle.st_unit_rules.specs.Checked.{Each, TypedRegion}
use Rattle.global_rules.specs.declared.globals.CheckedRegions.{CheckedRegions}

-- what these regions take, and what they are in the checked program
pub record HasRegions (r : CheckedRegions) (decls : List (Decl ℕ)) (rs : List Region) : Type 0 where
  pub taken-is : Holds r.taken decls rs
  pub trees : Each (TypedRegion decls) rs r.regions

abbrev pub made : Option RegionDecl → List RegionDecl
made None = []
made (Some r) = r ∷ []
