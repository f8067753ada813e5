-- A region of a global, in a scope and with a type that is known.
use Rattle.std.specs.Prelude.{◌≡◌, ℕ, List, Bool, false, Option, option_map}
use Rattle.st_types.specs.declared.st_type.StType.{StType}
use Rattle.st_tree.specs.declared.program.RegionDecl.{RegionDecl}
use Rattle.st_tree.specs.declared.unit.Decl.{Decl}
use Rattle.st_tree.specs.Initial.{initial_of}
use Rattle.st_rules.specs.Expressions.{told}
use Rattle.st_rules.specs.Scope.{Scope}
use Rattle.st_unit_rules.specs.declared_names.Variables.{Written}
use Rattle.st_unit_rules.specs.Checked.{marks_of}
use Rattle.st_unit_rules.specs.Initials.{typed_initial}

pub record IsRegion (r : RegionDecl) (s : Scope) (t : Option StType) (w : Written) : Type 0 where
  pub name : r.name ≡ w.name.text
  pub program : r.program ≡ false
  pub kind : r.kind ≡ told t
  pub marks : (decls : List (Decl ℕ)) → r.marks ≡ marks_of decls w
  pub initial : option_map initial_of r.initial ≡ option_map (typed_initial s t) (option_map initial_of w.item.initial)
  pub address : r.address ≡ w.item.address
