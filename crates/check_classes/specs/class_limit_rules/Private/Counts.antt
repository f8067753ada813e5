-- What numbers of a class break.
use Rattle.std.specs.Prelude.{ℕ, List, ◌++◌, length}
use Rattle.st_tree.specs.declared.declaration.ClassDecl.{ClassDecl}
use Rattle.st_tree.specs.declared.unit.Decl.{Decl}
use Rattle.st_rules.specs.Calls.{block_parameters}
use Rattle.st_rules.specs.Classes.{classes_in, methods_in}
use Rattle.st_rules.specs.Faults.{Faults}
use Rattle.st_rules.specs.Scope.{Scope}
use Rattle.st_unit_rules.specs.DeclarationRules.{body_locals}
use Rattle.st_unit_rules.specs.Limits.{too_many_methods, too_many_parameters, too_many_locals, too_many_bases, all_values}

abbrev pub counted : List (Decl ℕ) → Scope → ℕ → ClassDecl ℕ → Faults
counted decls s c d =
    too_many_methods d.line (length (methods_in d.members))
    ++ too_many_parameters d.line (length (block_parameters s c))
    ++ too_many_locals d.line (all_values s (body_locals decls s c))
    ++ too_many_bases d.line (classes_in decls) c
