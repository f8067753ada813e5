-- Globals as they are declared in a scope, with their regions.
use Rattle.std.specs.Prelude.{◌≡◌, ℕ, suc, if◌then◌else◌, List, [], ◌∷◌, ◌++◌}
use Rattle.st_tree.specs.declared.program.Target.TheVariants as target
use Rattle.st_rules.specs.declared.names.DeclaredGlobal.{DeclaredGlobal}
use Rattle.st_rules.specs.declared.names.DeclaredGlobal.TheVariants as global
use Rattle.st_rules.specs.Scope.{Scope}
use Rattle.st_unit_rules.specs.declared_names.Variables.{Written, constant_target, constant_of, declared_with}
use Rattle.declared_symbols.specs.untold_names.Untold.{regions_of}

-- the next region has number r
abbrev pub globals_in : Scope → ℕ → List Written → List DeclaredGlobal
globals_in s r [] = []
globals_in s r (w ∷ ws) =
    if w.constant
    then global.Variable (declared_with s (constant_target (constant_of s w)) w) ∷ globals_in s r ws
    else global.Variable (declared_with s (target.Region r) w) ∷ globals_in s (suc r) ws

-- the globals of these names were added, from one number of a region to another
pub record AddsGlobals (s : Scope) (old new : List DeclaredGlobal) (first after : ℕ) (ws : List Written) : Type 0 where
  pub globals : new ≡ old ++ globals_in s first ws
  pub regions : after ≡ regions_of first ws
