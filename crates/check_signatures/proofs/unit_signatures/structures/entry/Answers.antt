use Rattle.std.proofs.Common.{sym, ap, ◌∙◌}
use Rattle.check_signatures.specs.unit_signatures.Private.Structures.{groups_in}
use Rattle.check_signatures.proofs.unit_signatures.StructureLaws.{no_groups, groups_as}
use Rattle.check_signatures.proofs.unit_signatures.structures.entry.Goals as goal

pub returns-in_ok-declared-in-Structure : goal.returns-in_ok-declared-in-Structure
returns-in_ok-declared-in-Structure c = groups_as _ _ _ _ (c.as_slice.ensures ∙ ap groups_in (sym c.in-Structure.is)) c.in_ok-declared-in-Structure.ensures

pub returns-in-Alias : goal.returns-in-Alias
returns-in-Alias c = no_groups _ _ _ (ap groups_in c.in-Alias.is) c.new.ensures.items

pub returns-in-Enumeration : goal.returns-in-Enumeration
returns-in-Enumeration c = no_groups _ _ _ (ap groups_in c.in-Enumeration.is) c.new-in-Enumeration.ensures.items
