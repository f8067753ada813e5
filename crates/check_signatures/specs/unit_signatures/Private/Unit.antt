-- A whole unit.
use Rattle.std.specs.Prelude.{ℕ, List, [], map, pos}
use Rattle.st_tree.specs.declared.unit.Decl.{Decl}
use Rattle.st_rules.specs.declared.signature.Signatures.{Signatures}
use Rattle.st_rules.specs.Classes.{classes_in}
use Rattle.st_rules.specs.Interfaces.{interfaces_in}
use Rattle.st_unit_rules.specs.declared_names.Declarations.{entries_in}
use Rattle.st_unit_rules.specs.DeclarationRules.{unit}
use Rattle.st_unit_rules.specs.Worth.{Worth, a_number}
use Rattle.default_values.specs.declared.worth_numbers.node.Node.{Node}
use Rattle.default_values.specs.worth_numbers.Numbers.{Grows, HasWorth}
use Rattle.default_values.specs.declared.initial_worths.structures.Structure.{Structure}
use Rattle.default_values.specs.initial_worths.Structures.{AreStructures}
use Rattle.default_values.specs.numbered_signatures.Alike.{AreAllAlike}
use Rattle.check_signatures.specs.declared.unit_signatures.weighed.Weighed.{Weighed}
use Rattle.check_signatures.specs.unit_signatures.Private.Parameters.{AreWeighed}
use Rattle.check_signatures.specs.unit_signatures.Private.Routines.{classes_from, interface_signatures}

pub record WeighsUnit (decls : List (Decl ℕ)) (old new : List Node) (xs : List Structure) : Type 0 where
  pub grows : Grows old new
  pub structures : AreStructures new (unit decls) (entries_in decls) 66 xs

abbrev pub all_of : Weighed → Signatures Worth
all_of w = record {
  methods = classes_from w 0 (classes_in w.tables.now.decls);
  prototypes = map (interface_signatures w) (interfaces_in w.tables.now.decls);
  falsehood = a_number (pos 0);
}

pub record TellsAll (w : Weighed) (old new : List Node) (x : Signatures ℕ) : Type 0 where
  pub grows : Grows old new
  pub told : AreWeighed w old → AreAllAlike (HasWorth new) x (all_of w)
