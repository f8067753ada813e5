use Rattle.std.proofs.Common.{ap, subst, map, ◌∙◌}
use Rattle.st_unit_rules.specs.declared_names.UnitNames.{forgotten}
use Rattle.name_resolution.specs.Locals.{ArePlaces}
use Rattle.type_resolution.proofs.told_locals.TellingLaws.{untold_is}
use Rattle.type_resolution.proofs.told_locals.rounds.untold.Goals as goal

pub returns : goal.returns
returns c =
    untold_is c.args.around.now c.args.of.now _ c.requires (c.in_ok-known.ensures ∙ ap (map forgotten) (c.as_slice.ensures ∙ c.in_ok-named.ensures))
    (subst (ArePlaces c.in_ok-places.places) c.as_slice-2.ensures c.in_ok-places.ensures)
