-- What is found out about an entry of TYPE.
use Rattle.std.specs.Prelude.{◌≡◌, ℕ, List, ◌++◌}
use Rattle.st_tree.specs.declared.declaration.TypeDecl.{TypeDecl}
use Rattle.st_tree.specs.declared.unit.Decl.{Decl}
use Rattle.st_rules.specs.Faults.{Faults, least}
use Rattle.st_unit_rules.specs.Checked.{TypedEntry}
use Rattle.st_unit_rules.specs.DeclarationRules.{type_body_faults, body_depth}
use Rattle.st_unit_rules.specs.NameRules.{space_faults, part_names}
use Rattle.check_declared_variables.specs.declared.entry_rules.entries.CheckedEntry.{CheckedEntry}

-- what an entry with a number breaks at a place, but for what counts for every declaration
abbrev pub entry_faults : List (Decl ℕ) → ℕ → ℕ → TypeDecl ℕ → Faults
entry_faults decls place number t = space_faults (part_names t.body) ++ type_body_faults decls t.name.text t.body ++ body_depth decls t.name.line place number t.body

pub record ChecksEntry (c : CheckedEntry) (decls : List (Decl ℕ)) (place number : ℕ) (t : TypeDecl ℕ) : Type 0 where
  pub least : c.least ≡ least (entry_faults decls place number t)
  pub tree : TypedEntry decls t c.entry
