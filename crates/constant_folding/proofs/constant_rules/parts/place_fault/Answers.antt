use Rattle.std.proofs.Common.{ap, ◌∙◌}
use Rattle.st_tree.specs.Expression.{selectors_of}
use Rattle.st_rules.specs.Faults.{least}
use Rattle.st_unit_rules.specs.declared_names.Constants.{no_constant_place}
use Rattle.constant_folding.proofs.constant_rules.PartLaws.{place_seen}
use Rattle.constant_folding.proofs.constant_rules.parts.place_fault.Goals as goal

pub returns : goal.returns
returns c = place_seen c.args.s.now _ c.args.place.now (c.constant_place_fault.ensures ∙ ap (λ ss. least (no_constant_place c.args.s.now c.args.place.now.root (selectors_of ss))) c.as_slice.ensures)
