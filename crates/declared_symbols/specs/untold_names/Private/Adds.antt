-- What was added to a list of globals, for any that may follow.
use Rattle.std.specs.Prelude.{◌≡◌, ℕ, List, ◌++◌}
use Rattle.st_rules.specs.declared.names.DeclaredGlobal.{DeclaredGlobal}
use Rattle.st_unit_rules.specs.declared_names.Variables.{Written}
use Rattle.declared_symbols.specs.untold_names.Untold.{untold_variables, regions_of}

-- the globals of these names were added, from one number of a region to another
pub record AddsGlobals (old new : List DeclaredGlobal) (first after : ℕ) (ws : List Written) : Type 0 where
  pub variables : (rest : List Written) → new ++ untold_variables after rest ≡ old ++ untold_variables first (ws ++ rest)
  pub regions : (rest : List Written) → regions_of after rest ≡ regions_of first (ws ++ rest)
