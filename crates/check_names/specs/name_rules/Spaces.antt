-- Rules of a name, and of a method of an interface, one by one.
use Rattle.std.specs.Prelude.{ℕ, List, map}
use Rattle.std.proofs.Common.{Bor}
use Rattle.st_tree.specs.declared.declaration.Prototype.{Prototype}
use Rattle.st_tree.specs.declared.name.Name.{Name}
use Rattle.st_rules.specs.Faults.{Faults}
use Rattle.st_unit_rules.specs.NameRules.{name_of_conversion, local_name_faults}

abbrev pub conversion_of : Bor Name → Faults
conversion_of n = name_of_conversion n.now

abbrev pub prototype_locals : Prototype ℕ → Faults
prototype_locals m = local_name_faults m.name.text m.sections

abbrev pub method_names_of : List (Prototype ℕ) → List Name
method_names_of ms = map (λ m. m.name) ms
