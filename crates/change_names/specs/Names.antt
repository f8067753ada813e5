-- What variables, fields and regions come from.
use Rattle.std.specs.Prelude.{◌≡◌, ℕ, map}
use Rattle.st_values.specs.Program.{Program}
use Rattle.st_change.specs.From.{class_pairs, structure_pairs}
use Rattle.change_names.specs.declared.names.ChangeNames.{ChangeNames}
use Rattle.change_names.specs.Pairs.{pairs_at}
use Rattle.change_names.specs.Regions.{AreNumbers}

pub record AreNames (old new : Program) (n : ChangeNames) : Type 0 where
  pub classes : (c : ℕ) → pairs_at n.classes.items c ≡ class_pairs old new c
  pub structures : n.structures.items ≡ map (λ t. structure_pairs old new t.name) new.types
  pub regions : AreNumbers old new n.regions
