-- Globals one after the other, with what each breaks.
use Rattle.std.specs.Prelude.{◌≡◌, ℕ, List, [], ◌∷◌, ◌++◌, flat_map, Option}
use Rattle.plc_text.specs.declared.code.Code.{Code}
use Rattle.st_tree.specs.declared.unit.Decl.{Decl}
use Rattle.st_rules.specs.Faults.{least}
use Rattle.st_unit_rules.specs.declared_names.Declarations.{Global, Region, region_of_global}
use Rattle.st_unit_rules.specs.DeclarationRules.{global_faults}
use Rattle.global_rules.specs.declared.globals.CheckedRegions.{CheckedRegions}
use Rattle.global_rules.specs.Globals.{HasRegions}

-- for each global the least rule that it breaks behind the regions before it
abbrev pub AreFaults : List (Decl ℕ) → List Region → List Global → List (Option (Code × ℕ)) → Type 0
AreFaults decls before [] [] = Unit {0}
AreFaults decls before (g ∷ gs) (f ∷ fs) = (f ≡ least (global_faults decls before g)) × AreFaults decls (before ++ region_of_global g.written) gs fs
AreFaults decls before _ _ = ⊥

abbrev pub regions_made : List Global → List Region
regions_made gs = flat_map (λ g. region_of_global g.written) gs

-- these globals were checked behind the regions with which it began
pub record GlobalsTo (faults : List (Option (Code × ℕ))) (r : CheckedRegions) (decls : List (Decl ℕ)) (start : List Region) (gs : List Global) : Type 0 where
  pub faults-are : AreFaults decls start gs faults
  pub regions-are : HasRegions r decls (start ++ regions_made gs)

-- behind those that were checked, these were checked too
pub record Adds (decls : List (Decl ℕ)) (fs : List (Option (Code × ℕ))) (r : CheckedRegions) (gs : List (Option (Code × ℕ))) (q : CheckedRegions) (more : List Global) : Type 0 where
  pub adds : (start : List Region) (before : List Global) → GlobalsTo fs r decls start before → GlobalsTo gs q decls start (before ++ more)
