-- What is found out about a configuration behind what was checked.
use Rattle.std.specs.Prelude.{◌≡◌, ℕ, List, ◌++◌, Option}
use Rattle.plc_text.specs.declared.code.Code.{Code}
use Rattle.st_tree.specs.declared.configuration.Configuration.{Configuration}
use Rattle.st_tree.specs.declared.unit.Decl.{Decl}
use Rattle.st_tree.specs.declared.unit.Decl.TheVariants as declaration
use Rattle.st_rules.specs.Faults.{least}
use Rattle.st_unit_rules.specs.declared_names.Declarations.{a_configuration, configuration_globals, declarations_of, is_first_configuration}
use Rattle.st_unit_rules.specs.declaration_list.Written.{names_in_sections}
use Rattle.st_check_decl.specs.declared.checked_declarations.so_far.Bad.{Bad}
use Rattle.st_check_decl.specs.declared.checked_declarations.so_far.CheckedSoFar.{CheckedSoFar}
use Rattle.st_check_decl.specs.checked_declarations.SoFar.{Passed}
use Rattle.global_rules.specs.declared.globals.CheckedRegions.{CheckedRegions}
use Rattle.global_rules.specs.Globals.{HasRegions}
use Rattle.global_rules.specs.Sections.{AreFaults, regions_made}
use Rattle.st_unit_rules.specs.passing_laws.Passing.{At, AllGood, OneBad, after_decl, placed_at}
use Rattle.st_unit_rules.specs.passing_laws.PassingLaws.{SaysOf}
use Rattle.st_unit_rules.specs.DeclarationRules.{configuration_faults, instance_regions}
use Rattle.st_check_decl.specs.unit_check.Private.Refused.{IfRule}

-- what it breaks itself, and the regions with those of its instances, where those of its globals were checked
pub record Configures (f : Option (Code × ℕ)) (x : CheckedSoFar) (old new : CheckedRegions) (decls : List (Decl ℕ)) (c : Configuration ℕ) : Type 0 where
  pub fault : (a : At) → Passed x decls a → HasRegions old decls (a.regions ++ regions_made (names_in_sections (configuration_globals c))) → f ≡ least (configuration_faults decls (placed_at a (a_configuration c)) c)
  pub regions-are : (a : At) → Passed x decls a → HasRegions old decls (a.regions ++ regions_made (names_in_sections (configuration_globals c)))
      → HasRegions new decls ((a.regions ++ regions_made (names_in_sections (configuration_globals c))) ++ instance_regions decls (is_first_configuration a.earlier) c)

-- it breaks this and its globals break these among the regions before each
pub record Breaking (f : Option (Code × ℕ)) (fs : List (Option (Code × ℕ))) (decls : List (Decl ℕ)) (a : At) (c : Configuration ℕ) : Type 0 where
  pub own : f ≡ least (configuration_faults decls (placed_at a (a_configuration c)) c)
  pub globals : AreFaults decls a.regions (names_in_sections (configuration_globals c)) fs

-- all of it was passed, with its globals and its instances
pub record ConfiguredPass (x y : CheckedSoFar) (decls : List (Decl ℕ)) (f : Option (Code × ℕ)) (fs : List (Option (Code × ℕ))) (c : Configuration ℕ) : Type 0 where
  pub good : (a : At) → Passed x decls a → Breaking f fs decls a c → AllGood decls a (declarations_of (declaration.Configuration c))
  pub passed : (a : At) → Passed x decls a → Breaking f fs decls a c → Passed y decls (after_decl a (declaration.Configuration c))

pub record ConfiguredFail (b : Bad) (x : CheckedSoFar) (decls : List (Decl ℕ)) (f : Option (Code × ℕ)) (fs : List (Option (Code × ℕ))) (c : Configuration ℕ) : Type 0 where
  pub one : (a : At) → Passed x decls a → Breaking f fs decls a c → IfRule b (λ code name line. OneBad decls (SaysOf code name line) a (declarations_of (declaration.Configuration c)))
