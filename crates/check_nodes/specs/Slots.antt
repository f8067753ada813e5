-- What arguments need to know of the parameters that they are for: the number, the section and the type.
use Rattle.std.specs.Prelude.{ℕ, false, List, [], map, Option, option_map}
use Rattle.std.proofs.Common.{Bor}
use Rattle.st_types.specs.declared.st_type.StType.{StType}
use Rattle.st_tree.specs.declared.declaration.SectionSort.{SectionSort}
use Rattle.st_tree.specs.declared.program.Target.TheVariants.{Nothing}
use Rattle.st_rules.specs.declared.modifiers.Access.TheVariants.{Public}
use Rattle.st_rules.specs.declared.names.DeclaredVariable.{DeclaredVariable}
use Rattle.st_rules.specs.Calls.{Matched}
use Rattle.check_nodes.specs.declared.slots.Slot.{Slot}

-- a parameter without its name
abbrev pub bare : SectionSort → Option StType → DeclaredVariable
bare section t = record { name = []; sort = section; constant = false; access = Public; located_input = false; kind = t; target = Nothing }

abbrev pub slot : Slot → ℕ × DeclaredVariable
slot x = (x.number, bare x.sort x.kind)

abbrev pub slotted : Option Slot → Matched
slotted o = option_map slot o

abbrev pub slots : List (Option Slot) → List Matched
slots xs = map slotted xs

abbrev pub lent : Option (Bor Slot) → Matched
lent o = option_map (λ b. slot b.now) o

-- what is needed of a parameter
abbrev pub used : Matched → Matched
used m = option_map (λ x. (x.0, bare x.1.sort x.1.kind)) m
