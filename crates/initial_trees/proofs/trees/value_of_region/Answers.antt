use Rattle.std.proofs.Common.{sym, ap, ◌∙◌, option_map}
use Rattle.st_tree.specs.Initial.{initial_of}
use Rattle.st_values.specs.View.{program_of, initial_in}
use Rattle.value_trees.specs.Value.{value_of, value-Number}
use Rattle.program_tables.proofs.st_initial.WalkLaws.{given_copied}
use Rattle.initial_trees.specs.Private.Trees.{value_within}
use Rattle.initial_trees.proofs.LevelLaws.{no_value}
use Rattle.initial_trees.proofs.trees.value_of_region.Goals as goal

pub returns-in-None : goal.returns-in-None
returns-in-None c =
    value-Number _
    ∙ sym (no_value (program_of c.args.program.now) c.args.region.now.kind (initial_in c.args.region.now.initial)
    (ap (value_within (program_of c.args.program.now) 65 c.args.region.now.kind) (sym (given_copied c.as_ref.result ∙ ap (option_map initial_of) c.as_ref.ensures.value)) ∙ sym c.in_ok-value.ensures ∙ ap (option_map value_of) c.in-None.is))
