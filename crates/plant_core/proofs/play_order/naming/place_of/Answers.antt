use Rattle.std.proofs.Common.{◌∙◌}
use Rattle.plant_core.proofs.play_order.Lanes.{names_grow, name_added}
use Rattle.plant_core.proofs.play_order.naming.place_of.Goals as goal

pub returns-clause-grows : goal.returns-clause-grows
returns-clause-grows c = names_grow c.args.names.now c.add.new.self _ _ c.in-Ok.ensures.ok.1

pub returns-clause-place : goal.returns-clause-place
returns-clause-place c = name_added c.args.names.now c.add.new.self _ _ _ _ c.in-Ok.ensures.ok.0 c.in-Ok.ensures.ok.1 (c.in_ok-key.ensures ∙ c.as_str.ensures)
