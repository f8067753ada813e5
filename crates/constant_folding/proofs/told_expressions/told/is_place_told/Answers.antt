use Rattle.std.proofs.Common.{ap, ◌∙◌}
use Rattle.st_tree.specs.Expression.{selectors_of}
use Rattle.st_rules.specs.Expressions.{whole_target}
use Rattle.st_unit_rules.specs.declared_names.Constants.{is_told}
use Rattle.constant_folding.proofs.told_expressions.ToldLaws.{place_seen}
use Rattle.constant_folding.proofs.told_expressions.told.is_place_told.Goals as goal

pub returns : goal.returns
returns c =
    place_seen c.args.s.now c.is_told.result c.args.place.now
    (c.is_told.ensures ∙ ap is_told c.whole_target.ensures ∙ ap (λ ss. is_told (whole_target c.args.s.now c.args.place.now.root (selectors_of ss))) c.as_slice.ensures)
