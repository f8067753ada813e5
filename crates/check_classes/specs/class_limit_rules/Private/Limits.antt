-- What the depth of a class and that of the locals of its body break.
use Rattle.std.specs.Prelude.{ℕ, List, ◌++◌, flat_map, filter}
use Rattle.st_tree.specs.declared.declaration.ClassDecl.{ClassDecl}
use Rattle.st_tree.specs.declared.unit.Decl.{Decl}
use Rattle.st_rules.specs.Faults.{Faults}
use Rattle.st_rules.specs.Scope.{Scope}
use Rattle.st_unit_rules.specs.declared_names.Variables.{is_body_written, sections_in, sections_written}
use Rattle.st_unit_rules.specs.DeclarationRules.{class_too_deep, item_too_deep}

abbrev pub depths : List (Decl ℕ) → Scope → ℕ → ℕ → ClassDecl ℕ → Faults
depths decls s i c d = class_too_deep decls s i c d ++ flat_map (λ w. item_too_deep decls s w.item) (filter is_body_written (sections_written (sections_in d.members)))
