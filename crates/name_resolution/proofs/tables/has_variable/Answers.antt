use Rattle.std.proofs.Common.{◌∙◌}
use Rattle.name_resolution.proofs.PlaceLaws.{found_variable}
use Rattle.name_resolution.proofs.tables.has_variable.Goals as goal

pub returns : goal.returns
returns c = λ all is. c.is_some.ensures ∙ found_variable c.args.table.now all c.args.name.now c.place_of.result is c.place_of.ensures
