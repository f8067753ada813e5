-- Names of items, of which the first has what the item breaks.
use Rattle.std.specs.Prelude.{ℕ, ◌-◌, Bool, ◌&&◌, if◌then◌else◌, List, []}
use Rattle.st_tree.specs.declared.declaration.Item.{Item}
use Rattle.st_tree.specs.declared.unit.Decl.{Decl}
use Rattle.st_rules.specs.Faults.{Faults}
use Rattle.st_rules.specs.Scope.{Scope}
use Rattle.st_unit_rules.specs.declared_names.Declarations.{Global, declarations}
use Rattle.st_unit_rules.specs.declared_names.Variables.{Written}
use Rattle.st_unit_rules.specs.Limits.{most_steps, too_deep}

-- what an item breaks at the line of its program
abbrev pub in_program : List (Decl ℕ) → Scope → ℕ → Item ℕ → Faults
in_program decls s line item = too_deep s (declarations decls) (most_steps - 1) line item.kind

-- where the first name passes the test
abbrev pub with_first : (Written → Bool) → (Item ℕ → Faults) → Global → Faults
with_first test breaks g = if g.first && test g.written then breaks g.item else []
