use Rattle.std.proofs.Common.{sym, ap, ◌∙◌, option_map}
use Rattle.st_values.specs.View.{program_of}
use Rattle.value_trees.specs.Value.{value_of, value-Number}
use Rattle.initial_trees.proofs.LevelLaws.{no_value}
use Rattle.initial_trees.proofs.trees.initial_value.Goals as goal

pub returns-in-None : goal.returns-in-None
returns-in-None c = value-Number _ ∙ sym (no_value (program_of c.args.program.now) _ _ (sym c.in_ok-value.ensures ∙ ap (option_map value_of) c.in-None.is))
