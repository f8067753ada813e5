-- An entry of TYPE from its parts.
use Rattle.std.specs.Prelude.{◌≡◌, ℕ, Option}
use Rattle.plc_text.specs.declared.code.Code.{Code}
use Rattle.st_tree.specs.declared.name.Name.{Name}
use Rattle.st_rules.specs.Faults.{earlier}
use Rattle.check_declared_variables.specs.declared.entry_rules.bodies.CheckedBody.{CheckedBody}
use Rattle.check_declared_variables.specs.declared.entry_rules.entries.CheckedEntry.{CheckedEntry}

pub record IsEntry (c : CheckedEntry) (own : Name) (names : Option (Code × ℕ)) (found : CheckedBody) : Type 0 where
  pub least : c.least ≡ earlier names found.least
  pub name : c.entry.name ≡ own
  pub body : c.entry.body ≡ found.body
