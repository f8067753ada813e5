-- Places as expressions, from what is found out about their parts.
use Rattle.std.specs.Prelude.{◌≡◌, ℕ, Bool, false, if◌then◌else◌, Option, option_and_then}
use Rattle.plc_text.specs.declared.code.Code.{Code}
use Rattle.st_tree.specs.declared.expression.Root.{Root}
use Rattle.st_tree.specs.declared.program.Note.{Note}
use Rattle.st_tree.specs.declared.program.Target.TheVariants.{Nothing}
use Rattle.st_tree.specs.Expression.{Selectors, selectors_of, expression_of, place_of}
use Rattle.st_tree.specs.Expression as tree
use Rattle.st_rules.specs.Faults.{Faults, least, earlier}
use Rattle.st_rules.specs.Scope.{Scope}
use Rattle.st_rules.specs.Places.{root_faults, root_line, whole_faults, place_type}
use Rattle.st_rules.specs.Expressions.{called_root_faults, note, whole_target, reference_to, reference_to_no_instance}
use Rattle.check_nodes.specs.declared.along.Along.{Along}
use Rattle.check_nodes.specs.declared.found.Checked.{Checked}
use Rattle.check_nodes.specs.declared.wholes.CheckedPlace.{CheckedPlace}

abbrev pub root_part : Scope → Bool → Root ℕ → Selectors ℕ → Faults
root_part s called r ss = if called then called_root_faults s r ss else root_faults s false r ss

pub record Begins (x : CheckedPlace) (of_root : Option (Code × ℕ)) (r : Root Note) (along : Along) : Type 0 where
  pub least : x.least ≡ earlier of_root along.least
  pub place : place_of x.place ≡ (r, selectors_of along.selectors)

pub record Wholes (c : Checked) (s : Scope) (line : ℕ) (r : Root ℕ) (ss : Selectors ℕ) (x : CheckedPlace) : Type 0 where
  pub told : c.told ≡ place_type s r ss
  pub least : c.least ≡ earlier x.least (least (whole_faults s r ss))
  pub tree : expression_of c.tree ≡ tree.Place (note line (place_type s r ss) (whole_target s r ss)) (place_of x.place).0 (place_of x.place).1

pub record Refers (c : Checked) (s : Scope) (line : ℕ) (r : Root ℕ) (ss : Selectors ℕ) (x : CheckedPlace) : Type 0 where
  pub told : c.told ≡ option_and_then reference_to (place_type s r ss)
  pub least : c.least ≡ earlier (earlier x.least (least (whole_faults s r ss))) (least (reference_to_no_instance (root_line r) (place_type s r ss)))
  pub tree : expression_of c.tree ≡ tree.Ref (note line (option_and_then reference_to (place_type s r ss)) Nothing) (place_of x.place).0 (place_of x.place).1
